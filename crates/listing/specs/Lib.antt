pub mod Tables
pub mod Listing
pub mod Resolving
