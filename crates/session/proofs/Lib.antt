pub mod Continuing
pub mod Doing
pub mod Running
