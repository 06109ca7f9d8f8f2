-- The definitions that the contracts of job cite.
pub mod Tables
pub mod Jobs
pub mod Showing
