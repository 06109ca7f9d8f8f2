-- Lemmas on readers, sites and what follows of them.
pub mod Listed
pub mod Placed
pub mod Ranked
pub mod Sited
pub mod Caught
pub mod Refined
pub mod Thinned
pub mod Numbered
