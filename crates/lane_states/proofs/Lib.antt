-- Shared: other crates cite these.
pub mod Accepting
pub mod Counts
pub mod Exchanging
pub mod Giving
pub mod Going
pub mod Hearings
pub mod Kept
pub mod LaneSteps
pub mod NodeSpans
pub mod Places
pub mod SameStates
pub mod Tellings
pub mod TellingBack
-- Of this crate alone.
mod Dues
mod KnownOwners
mod Nobodies
mod Owners
mod Shelving
mod Stops
mod Turns
