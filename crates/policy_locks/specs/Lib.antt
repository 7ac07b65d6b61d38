pub mod Parts
pub mod Stored
pub mod Reading
pub mod Sources
pub mod Outcomes
pub mod Digests
pub mod Making
pub mod Laws
