-- Looking a key up in the bytes
pub mod Values
pub mod Slots
pub mod Scans
pub mod Steps
pub mod Openings
pub mod Maps
pub mod Loops
pub mod Checked
pub mod Indexed
pub mod Plain
pub mod Apart
pub mod Sound
pub mod Places
pub mod Walks
