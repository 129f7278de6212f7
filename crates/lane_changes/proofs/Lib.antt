-- Shared: other crates cite these.
pub mod Noted
pub mod Kept
pub mod Quiet
-- Of this crate alone.
mod Telling
