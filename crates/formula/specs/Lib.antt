-- The definitions that the contracts of formula cite.
pub mod Rows
pub mod Variables
pub mod Links
pub mod Formulas
pub mod RowLaws
pub mod Meanings
pub mod CardB
pub mod Posing
