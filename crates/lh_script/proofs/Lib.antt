-- Lemmas by subject; beside them the proofs of each function, by its module
pub mod Characters
pub mod Cutting
pub mod Pairs
pub mod ReadBack
pub mod Scripts
pub mod Splitting
pub mod StepLines
pub mod Verbs
