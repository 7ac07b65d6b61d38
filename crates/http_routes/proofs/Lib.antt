pub mod HeaderLemmas
pub mod SegmentLemmas
pub mod ConnectionLemmas
pub mod SeekLemmas
pub mod OrderLemmas
pub mod Utf8Lemmas
pub mod PathLemmas
