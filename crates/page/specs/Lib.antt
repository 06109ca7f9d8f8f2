-- The definitions that the contracts of pages cite.
pub mod Pages
pub mod Views
