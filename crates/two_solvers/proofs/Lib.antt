-- Lemmas on two runs.
pub mod Joins
