-- Shared: other crates cite these.
pub mod Writes
pub mod Folds
pub mod Reading
-- Of this crate alone.
mod Members
mod Lanes
mod Standing
mod Counting
mod Searched
mod Covering
