pub mod Input
pub mod MemoryLink
pub mod MemoryLaws
