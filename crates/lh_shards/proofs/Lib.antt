-- Lemmas by subject
pub mod Beginning
pub mod Beginnings
pub mod Counting
pub mod Giving
pub mod Homes
pub mod Joins
pub mod Listed
pub mod Looks
pub mod Merging
pub mod OneShard
pub mod Owning
pub mod Parts
pub mod Passing
pub mod Places
pub mod Settled
pub mod TracedShards
pub mod Wholes
