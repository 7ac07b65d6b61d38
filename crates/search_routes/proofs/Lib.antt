pub mod SearchLemmas
pub mod PlainLemmas
pub mod LawfulLemmas
pub mod ReadingLemmas
pub mod WordLemmas
pub mod FindingLemmas
