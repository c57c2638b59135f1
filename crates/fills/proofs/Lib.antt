pub mod Units
pub mod Legs
pub mod Fillings
pub mod Quotes
