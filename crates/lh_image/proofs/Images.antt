-- Images and their listings
pub mod Listings
pub mod Shown
pub mod ImageLaws
pub mod Counts
pub mod RoundTrip
