pub mod Cuts
pub mod Stands
