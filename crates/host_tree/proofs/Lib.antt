pub mod PathLemmas
pub mod EntryLemmas
pub mod BelowLemmas
pub mod KeptLemmas
mod SpellingLemmas
mod ImageLemmas
