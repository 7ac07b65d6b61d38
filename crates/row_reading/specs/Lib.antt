pub mod Seen
pub mod Tokens
pub mod Bodies
pub mod Sayings
pub mod Rows
pub mod Outcomes
