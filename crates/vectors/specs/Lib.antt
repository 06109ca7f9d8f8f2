-- The definitions that the contracts of test vectors cite.
pub mod Allowed
pub mod Vectors
pub mod Views
pub mod Rows
pub mod Refusals
pub mod Freeing
pub mod Merging
pub mod Extending
