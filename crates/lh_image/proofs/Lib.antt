-- Lemmas by subject; beside them the proofs of each function, by its module
pub mod Bytes
pub mod Paths
pub mod Faults
pub mod Images
pub mod OfReading
pub mod Judging
pub mod Writes
pub mod Samples
pub mod Looking
