pub mod FileKeepingLemmas
pub mod KeepingLemmas
pub mod ListingLemmas
pub mod OrderlyLemmas
pub mod PlainLemmas
pub mod LawfulLemmas
pub mod ReadLemmas
pub mod SameLemmas
