pub mod Replaced
pub mod Nets
pub mod LegTakes
