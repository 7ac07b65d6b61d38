pub mod Forms
pub mod Fields
pub mod Kinds
pub mod Laws
pub mod GroupBodies
pub mod Objects
pub mod Outcomes
pub mod Rows
