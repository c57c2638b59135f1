pub mod Words
pub mod Rows
pub mod Worked
pub mod Example
