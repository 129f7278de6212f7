-- Shared: other crates cite these.
pub mod Sent
pub mod Waiting
pub mod Staying
pub mod Refusals
pub mod Running
pub mod RoundTelling
pub mod Runs
pub mod RoundEnds
-- Of this crate alone.
mod Beginning
mod Sending
mod Hearing
mod Ending
mod Short
