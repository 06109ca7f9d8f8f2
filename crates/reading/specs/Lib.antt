pub mod Refusals
pub mod Commands
pub mod Reading
pub mod Drafts
pub mod Rules
pub mod Writing
