pub mod ListingLemmas
pub mod NumberLemmas
pub mod LeftOutLemmas
pub mod JoinLemmas
