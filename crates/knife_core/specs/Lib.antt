pub mod Table
pub mod Bodies
pub mod Unsent
pub mod Ends
