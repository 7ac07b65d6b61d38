pub mod Checksums
pub mod Sums
pub mod Room
pub mod Sandboxes
pub mod Files
