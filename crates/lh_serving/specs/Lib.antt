pub mod Answers
pub mod ConversationView
pub mod Conversations
pub mod PartSeen
pub mod Parts
pub mod Texts
