pub mod Few
pub mod Legs
pub mod Reordering
pub mod Forms
pub mod Payoff
pub mod Prices
pub mod Verdicts
