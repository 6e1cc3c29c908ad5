pub mod Codes
pub mod Handles
pub mod Replies
pub mod Many
pub mod Built
