pub mod Indexes
pub mod Meeting
pub mod Found
pub mod Looks
pub mod Laws
pub mod Held
pub mod Exact
pub mod Changes
