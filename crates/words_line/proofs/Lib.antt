-- Shared: other crates cite these.
pub mod SaidOnce
-- Of this crate alone.
mod Numerals
mod Reading
mod TheCommand
