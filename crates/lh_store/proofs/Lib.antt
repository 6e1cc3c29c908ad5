pub mod Keeping
pub mod Histories
