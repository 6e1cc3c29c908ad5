-- Lemmas by subject; beside them the proofs of each function, by its module
pub mod Logs
pub mod Records
pub mod Worlds
pub mod OneCaller
