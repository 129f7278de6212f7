-- Shared: other crates cite these.
pub mod Inside
pub mod RowLaws
pub mod RowLists
-- Of this crate alone.
mod Coarsest
mod Counts
mod Deletes
mod Moves
