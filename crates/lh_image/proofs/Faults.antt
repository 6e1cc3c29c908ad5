-- The table of faults: each condition, and the first that holds
pub mod Ranges
pub mod FirstAnswers
pub mod FirstFaults
pub mod Sound
pub mod Misfits
pub mod Keys
