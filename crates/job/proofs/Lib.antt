-- Lemmas on what a job holds.
pub mod Tabled
pub mod Sweeping
pub mod Merging
pub mod Reaching
pub mod Rows
