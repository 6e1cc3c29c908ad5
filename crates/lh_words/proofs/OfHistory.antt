-- Steps keep the history of a traced file
pub mod Acting
pub mod BucketSeats
pub mod Dividing
pub mod Halves
pub mod Moving
pub mod Opening
pub mod Quiet
