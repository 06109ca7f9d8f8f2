-- The definitions that the contracts of faults cite.
pub mod Readers
pub mod Sites
pub mod SiteLaws
pub mod Refusals
pub mod Views
pub mod Showing
pub mod Catching
pub mod Thinning
