-- Lemmas on rows, links and what follows of them.
pub mod Parts
pub mod Renamed
pub mod Ruled
pub mod Linked
pub mod Known
pub mod Canonical
pub mod Meant
pub mod Leading
pub mod Sizes
pub mod Standing
pub mod Puts
pub mod Ranged
pub mod Loops
