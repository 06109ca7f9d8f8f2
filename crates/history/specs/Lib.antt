-- The definitions that the contracts of jobs cite.
pub mod Refusals
pub mod Views
pub mod Granting
pub mod Changing
pub mod Steps
pub mod Histories
pub mod Promises
