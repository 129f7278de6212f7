-- Shared: other crates cite these.
pub mod Orders
pub mod Places
pub mod Firsts
pub mod Picks
pub mod Listing
pub mod StateMarks
-- Of this crate alone.
mod Counts
mod Unique
mod Groups
