pub mod Talk
pub mod Endings
pub mod Exchanges
