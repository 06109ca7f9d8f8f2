-- The definitions that the contracts of the sheet's text cite.
pub mod Lines
pub mod Truths
pub mod Limits
pub mod Worked
