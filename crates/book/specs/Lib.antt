pub mod Faults
pub mod Resting
pub mod Tables
pub mod Books
