-- The definitions that the contracts of requests cite.
pub mod Refusals
pub mod Serving
pub mod Running
