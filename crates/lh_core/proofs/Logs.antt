-- Steps, and what a log of them leads to
pub mod Steps
pub mod Tied
pub mod Spans
pub mod Aiming
pub mod Histories
pub mod Leading
pub mod Running
