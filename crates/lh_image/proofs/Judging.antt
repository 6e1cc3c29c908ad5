-- The faults and the listing of pages that were kept
pub mod Tables
pub mod Markings
pub mod Finding
pub mod Misplacing
pub mod LinkFaults
pub mod Judging
pub mod Last
pub mod Closing
pub mod AtHome
