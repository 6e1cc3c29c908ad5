pub mod Config
pub mod Extent
pub mod Fnv
pub mod Growth
pub mod Limits
pub mod Root
pub mod Settings
pub mod RootWord
