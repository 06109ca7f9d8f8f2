-- Lemmas on requests and runs of them.
pub mod Tickets
pub mod Answered
pub mod Turning
