pub mod Docs
pub mod Within
pub mod Maps
mod Entries
mod Place
mod Pairwise
mod Moved
mod Converted
pub mod RoundTrip
