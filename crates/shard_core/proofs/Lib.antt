pub mod SlotLemmas
pub mod HoldingLemmas
pub mod ChangeLemmas
pub mod FindLemmas
pub mod IndexLemmas
pub mod ShardLemmas
pub mod ListingLemmas
