pub mod WholeLemmas
pub mod MemberLemmas
pub mod CompactLemmas
pub mod NextLemmas
pub mod ReadLemmas
