pub mod OfHistory
pub mod OfWords
