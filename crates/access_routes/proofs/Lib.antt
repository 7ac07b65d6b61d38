pub mod StrangerLemmas
pub mod AccessLemmas
pub mod PlainLemmas
pub mod LawfulLemmas
pub mod ContainersLemmas
