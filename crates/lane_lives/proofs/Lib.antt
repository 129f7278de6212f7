-- Shared: other crates cite these.
pub mod FirstEvents
pub mod Deeds
pub mod DeedStates
pub mod Living
pub mod Covered
-- Of this crate alone.
mod Alone
mod Fed
