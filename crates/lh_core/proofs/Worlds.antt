-- A world as it begins, as it is opened, and through one step
pub mod Begin
pub mod Opened
pub mod Stepping
