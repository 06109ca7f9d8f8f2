pub mod Refusals
pub mod Characters
pub mod Expecting
