-- Buckets that are held, snapshots and scans
pub mod Aims
pub mod ScannedKeys
pub mod Moments
pub mod Held
pub mod Settled
