-- Bytes that come page by page, and how far they were read
pub mod Fillings
pub mod Filled
pub mod FirstPage
pub mod FirstPages
pub mod Steps
pub mod Whole
pub mod Leading
