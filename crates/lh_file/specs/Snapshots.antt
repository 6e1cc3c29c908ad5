-- The records of a running file: of all its buckets at one moment, or bucket by bucket
pub mod Hands
pub mod Moments
pub mod Held
pub mod Scans
pub mod ScannedKeys
pub mod Settled
