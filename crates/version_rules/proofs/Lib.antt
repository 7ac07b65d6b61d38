pub mod VersionLemmas
pub mod DecimalLemmas
pub mod ReadBack
pub mod FaultLemmas
pub mod FitLemmas
