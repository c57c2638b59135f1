pub mod Accepts
pub mod Lexes
pub mod Unique
