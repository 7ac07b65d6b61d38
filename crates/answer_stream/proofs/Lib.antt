pub mod AnsweringLemmas
pub mod TurnLemmas
pub mod EndLemmas
