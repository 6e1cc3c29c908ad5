-- Steps on the words keep the rule
pub mod Changes
pub mod CountSteps
pub mod Dividing
pub mod Fields
pub mod LastWords
pub mod RootSteps
pub mod SingleHands
