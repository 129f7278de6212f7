-- Shared: other crates cite these.
pub mod Steps
pub mod Basics
pub mod Claims
pub mod AtomRuns
-- Of this crate alone.
mod Accepting
mod Written
mod Stepping
mod Closing
mod Meanings
