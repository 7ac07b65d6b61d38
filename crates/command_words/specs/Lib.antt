pub mod Words
pub mod Options
pub mod Reading
pub mod Gathering
