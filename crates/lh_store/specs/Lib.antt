pub mod Sessions
pub mod Histories
pub mod Rooms
