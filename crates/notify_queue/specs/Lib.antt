pub mod Queue
pub mod Linked
pub mod Kept
