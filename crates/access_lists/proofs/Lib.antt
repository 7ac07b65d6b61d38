pub mod StartingLemmas
pub mod FormsLemmas
pub mod PermittedLemmas
pub mod CreatorsLemmas
