pub mod GroupBodiesLemmas
pub mod NamedLemmas
pub mod PairLemmas
pub mod ReadBackLemmas
pub mod SettledLemmas
pub mod StoredLemmas
