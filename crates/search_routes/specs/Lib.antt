pub mod Readings
pub mod Searches
pub mod Finding
pub mod Listing
pub mod SearchRules
