pub mod AskingLaws
pub mod Escapes
pub mod OptionLaws
pub mod OptionSteps
pub mod Options
