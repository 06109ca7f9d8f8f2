pub mod Putting
pub mod Breaks
pub mod Telling
pub mod Lengths
