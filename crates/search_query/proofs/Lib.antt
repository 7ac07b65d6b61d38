pub mod WalkLemmas
pub mod MeetLemmas
pub mod PairLemmas
pub mod BracketLemmas
mod PartialLemmas
mod PageLemmas
