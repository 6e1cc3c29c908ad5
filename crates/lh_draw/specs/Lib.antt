pub mod Columns
pub mod Drawing
pub mod DrawingTexts
pub mod Meaning
pub mod Sizes
