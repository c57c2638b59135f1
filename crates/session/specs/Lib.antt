pub mod Venues
pub mod Refusals
pub mod Views
pub mod Answering
pub mod Days
pub mod Turns
