-- The bytes of an image: its header, its pages, and where a part stands
pub mod Versions
pub mod Header
pub mod HeaderText
pub mod HeaderTests
pub mod PageTests
pub mod Fitting
pub mod Placing
pub mod Joining
