pub mod FirstsLemmas
pub mod LinkLemmas
pub mod PairLemmas
pub mod KeptLemmas
