pub mod FailedLemmas
pub mod SinkLemmas
pub mod EntriesLemmas
pub mod FrontLemmas
pub mod ListingLemmas
