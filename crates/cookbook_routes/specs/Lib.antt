pub mod Sandboxes
pub mod Files
pub mod Listings
pub mod Versions
pub mod Universes
pub mod Solving
pub mod CookbookRules
