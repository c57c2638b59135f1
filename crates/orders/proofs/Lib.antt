pub mod LegChecks
pub mod Soundness
pub mod LegRanges
pub mod Verdicts
pub mod Abridged
pub mod Checked
