-- The definitions that the contracts of desk cite.
pub mod Keeping
pub mod Desks
