pub mod Below
pub mod Oftens
pub mod Alikely
