-- Keys in shards, hands of all shards, what their calls promise, and the law that joins them
pub mod Closing
pub mod Counts
pub mod Dividing
pub mod Hands
pub mod Joining
pub mod Listings
pub mod Number
pub mod OneMap
pub mod OpenFault
pub mod Opening
pub mod Openings
pub mod Own
pub mod Rooms
pub mod Settling
pub mod Snapshots
pub mod Traced
