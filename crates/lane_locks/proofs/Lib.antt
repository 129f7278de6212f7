-- Shared: other crates cite these.
pub mod Sparing
pub mod Staging
-- Of this crate alone.
mod Calls
mod Turning
mod Idling
mod Listing
mod Powers
mod Numbered
mod Naming
mod Sending
