-- Lemmas by subject; beside them the proofs of each function, by its module
pub mod CallsServed
pub mod Hearing
