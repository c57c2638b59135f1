pub mod Parts
pub mod Settling
pub mod Sweep
pub mod Steps
