pub mod Model
pub mod Promises
