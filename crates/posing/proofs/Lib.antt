pub mod Differs
