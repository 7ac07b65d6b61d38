pub mod CountLemmas
pub mod HistoryLemmas
pub mod RuleLemmas
pub mod StepLemmas
pub mod SeatLemmas
pub mod CallerLemmas
