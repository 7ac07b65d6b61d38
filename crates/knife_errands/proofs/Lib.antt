pub mod TargetLemmas
pub mod CleanLemmas
pub mod ListingLemmas
