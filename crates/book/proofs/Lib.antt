pub mod Looks
pub mod Totals
pub mod Tables
pub mod Next
pub mod Changes
