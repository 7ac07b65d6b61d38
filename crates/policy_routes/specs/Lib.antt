pub mod Artifacts
pub mod Moving
pub mod Locks
pub mod Policies
pub mod Groups
pub mod PolicyRules
