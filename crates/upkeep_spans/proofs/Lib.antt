-- Shared: other crates cite these.
pub mod Leaving
pub mod Placing
pub mod Seeing
pub mod Rested
-- Of this crate alone.
mod Plans
mod Kept
mod AtOnce
mod Absences
mod Telling
