pub mod GroupRoutes
pub mod Users
pub mod Containers
pub mod AccessLists
pub mod AccessRules
