-- Shared: other crates cite these.
pub mod Measures
-- Of this crate alone.
mod Sums
