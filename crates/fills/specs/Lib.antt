pub mod Fills
pub mod Fillings
pub mod FillingLaws
pub mod Quotes
pub mod FillLaws
