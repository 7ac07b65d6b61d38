pub mod Asks
pub mod Fields
pub mod Faults
pub mod Room
pub mod Answer
pub mod Frames
pub mod Replies
