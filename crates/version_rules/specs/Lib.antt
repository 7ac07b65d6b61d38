pub mod Versions
pub mod Order
pub mod Terms
pub mod Constraints
pub mod Meets
pub mod Laws
