pub mod Classes
pub mod Sweeps
pub mod Prices
pub mod Day
