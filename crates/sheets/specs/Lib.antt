-- The definitions that the contracts of sheets cite.
pub mod Refusals
pub mod Working
pub mod Telling
pub mod Putting
pub mod Printing
