-- Chains of pages: walks along `next`, paths, and what they hold
pub mod Walks
pub mod ShortPaths
pub mod Paths
pub mod Linking
pub mod Pigeons
pub mod Totals
pub mod Packing
