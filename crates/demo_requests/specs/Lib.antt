pub mod Draws
pub mod Turns
pub mod DemoRequests
pub mod Lines
