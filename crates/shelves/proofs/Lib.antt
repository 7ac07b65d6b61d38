pub mod PlaceLemmas
pub mod MapLemmas
pub mod ValueLemmas
pub mod ShelfLaws
pub mod ShelfLemmas
pub mod RoomLemmas
pub mod CopyLemmas
