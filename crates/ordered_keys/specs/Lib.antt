pub mod Numbers
pub mod Keys
pub mod Arranged
pub mod Order
pub mod Nodes
pub mod Stored
pub mod Tree
