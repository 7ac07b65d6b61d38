pub mod Order
pub mod Placing
pub mod Steps
pub mod Marks
pub mod Alone
pub mod Serving
pub mod Finding
pub mod Permitting
