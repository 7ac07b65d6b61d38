pub mod Rows
pub mod Changes
pub mod Keeper
pub mod MemoryKeeper
