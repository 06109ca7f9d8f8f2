pub mod Cards
pub mod Searches
pub mod Jobs
pub mod Sheets
pub mod Cases
