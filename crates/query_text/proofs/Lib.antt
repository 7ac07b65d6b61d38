pub mod Choices
pub mod Coming
pub mod TermLemmas
pub mod Sound
pub mod Live
pub mod TermRuns
pub mod Runs
pub mod PlaceLemmas
