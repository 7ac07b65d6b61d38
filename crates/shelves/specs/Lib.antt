pub mod Places
pub mod SortedMap
pub mod Shelves
pub mod Rooms
