-- Lemmas by subject; beside them the proofs of each function, by its module
pub mod Accepted
pub mod CommandShapes
pub mod Levels
pub mod NumberLemmas
pub mod Requests
pub mod RowLemmas
pub mod Shown
pub mod StopLemmas
pub mod Unlike
