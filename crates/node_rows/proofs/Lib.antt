pub mod PlaceLaws
pub mod ListLaws
pub mod IndexedLaws
pub mod KeptLaws
pub mod ReadLaws
mod ColumnLaws
pub mod RoomLaws
pub mod FitLaws
pub mod MoreLaws
pub mod UndoLaws
