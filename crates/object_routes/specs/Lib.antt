pub mod Operations
pub mod Organisations
pub mod Objects
pub mod DataBags
