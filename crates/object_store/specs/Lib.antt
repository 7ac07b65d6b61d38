pub mod Keys
pub mod Objects
pub mod Items
pub mod Shelving
pub mod Kept
pub mod Bases
