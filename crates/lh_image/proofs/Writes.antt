-- The pages of a listing, and what is written of it
pub mod Sends
pub mod Counting
pub mod Counted
pub mod Writable
pub mod Lengths
pub mod CanonicalPages
