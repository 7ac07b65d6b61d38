pub mod Compact
pub mod Next
pub mod Whole
pub mod Find
