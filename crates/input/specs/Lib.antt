pub mod Breaks
pub mod Buffers
pub mod Sources
