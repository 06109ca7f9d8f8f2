-- The definitions that the contracts of asking cite.
pub mod Weights
pub mod Findings
