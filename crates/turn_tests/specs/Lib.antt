pub mod Deposits
pub mod Accounts
