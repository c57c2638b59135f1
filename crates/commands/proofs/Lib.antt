pub mod Steps
pub mod LegLists
pub mod Sayings
pub mod Decoding
pub mod Answering
