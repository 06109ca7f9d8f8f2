-- Lemmas on numbers of bits, and on what a solver's answer says of a fault.
pub mod Weighed
pub mod Counted
pub mod Told
pub mod Asked
