pub mod Crew
pub mod Driven
pub mod Driving
pub mod DrivingShards
pub mod Serving
