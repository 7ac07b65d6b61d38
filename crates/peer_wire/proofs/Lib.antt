pub mod HeaderLemmas
pub mod TextLemmas
pub mod AnswerLemmas
pub mod StreamLemmas
pub mod FaultLemmas
