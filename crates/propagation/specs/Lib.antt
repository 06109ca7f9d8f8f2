pub mod Stacks
pub mod Scanning
pub mod Trails
pub mod Assignments
pub mod Occurrences
pub mod Clauses
pub mod Following
