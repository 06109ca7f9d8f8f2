-- The definitions that the contracts of two_solvers cite.
pub mod Joining
