pub mod Lines
pub mod Areas
