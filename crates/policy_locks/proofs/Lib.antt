mod FieldLemmas
mod HexLemmas
mod LineLemmas
pub mod LockLemmas
mod MakeLemmas
mod OrderLemmas
mod PutLemmas
mod SourceLemmas
mod WholeLemmas
