pub mod Outcomes
pub mod Stores
pub mod Numbering
