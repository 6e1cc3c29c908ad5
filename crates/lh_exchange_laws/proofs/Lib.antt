pub mod AddedRecords
pub mod ListedRecords
pub mod LoadedRecords
pub mod ReadBytes
pub mod SameRecords
