-- Lemmas on histories and what follows of them.
pub mod Caught
pub mod Granted
pub mod Tickets
pub mod Verdicts
pub mod Swept
pub mod Merged
pub mod Promised
pub mod Reaching
