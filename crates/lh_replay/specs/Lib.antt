pub mod Lanes
pub mod Meaning
pub mod Picture
pub mod PictureTexts
pub mod Sizes
