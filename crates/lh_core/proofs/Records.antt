-- Where the records of a map stand, in a row of buckets and in a listing, and how many there are
pub mod Placing
pub mod Listed
pub mod Counted
