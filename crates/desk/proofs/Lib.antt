-- Lemmas on the tickets of a desk.
mod Keeping
