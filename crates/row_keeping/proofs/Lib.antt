-- Shared: other crates cite these.
pub mod Serving
-- Of this crate alone.
mod RowLists
mod Reading
mod Decided
mod Splits
mod Changes
mod Ends
mod Joins
mod Accepting
mod Telling
