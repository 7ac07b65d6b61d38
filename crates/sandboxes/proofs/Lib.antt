pub mod ChecksumLemmas
pub mod FilesLemmas
pub mod HoldingLemmas
pub mod MapLemmas
pub mod SearchLemmas
pub mod StockLemmas
pub mod SumsLemmas
