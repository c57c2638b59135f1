pub mod Faults
pub mod Sides
pub mod Levels
pub mod Net
pub mod Takes
