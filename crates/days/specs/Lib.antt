pub mod Verdicts
pub mod State
pub mod Listings
pub mod Cancels
pub mod Entries
pub mod Works
pub mod History
pub mod Laws
