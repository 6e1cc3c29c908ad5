-- Lemmas by subject; beside them the proofs of each function, by its module
pub mod ColumnPlaces
pub mod Meanings
pub mod Tallies
