pub mod Acls
pub mod Creators
pub mod Permitted
pub mod Strangers
pub mod Starting
pub mod Listed
pub mod Forms
pub mod Sent
