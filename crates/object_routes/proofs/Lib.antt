pub mod AppendLemmas
pub mod KeepingLemmas
pub mod OrderlyLemmas
pub mod PlainLemmas
pub mod ShelflessLemmas
pub mod LawfulLemmas
