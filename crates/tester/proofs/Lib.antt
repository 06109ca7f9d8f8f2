pub mod Showing
pub mod Truths
