-- Shared: other crates cite these.
pub mod Eaches
-- Of this crate alone.
mod Falling
