pub mod IndexLemmas
mod ListLemmas
mod FoundLemmas
pub mod LawLemmas
pub mod RoomLemmas
