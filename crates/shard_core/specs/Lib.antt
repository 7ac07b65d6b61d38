pub mod Holding
pub mod Keeping
pub mod Organisations
pub mod Indexing
pub mod Looking
pub mod Shards
pub mod Listing
