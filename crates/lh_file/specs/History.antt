-- What callers know of the history of a traced file
pub mod Entered
pub mod Met
pub mod Own
pub mod RealTime
pub mod Telling
pub mod Updating
pub mod UpdatingLaws
