-- Shared: other crates cite these.
pub mod Takings
-- Of this crate alone.
mod Parting
mod Taking
mod Changing
mod Bodies
mod Splitting
mod Telling
mod Reading
mod Saying
mod Scripts
mod Coming
mod Rounding
mod Uniting
mod Noted
mod Running
mod Bounds
mod Ended
