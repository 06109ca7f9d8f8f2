-- Lemmas on the work on a card and its sheet.
pub mod Worked
pub mod Counted
pub mod Printed
