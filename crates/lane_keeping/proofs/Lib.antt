-- Shared: other crates cite these.
pub mod Acting
pub mod Openings
pub mod Events
pub mod Owners
pub mod Parts
pub mod Words
pub mod Shapes
pub mod Stamping
pub mod Flying
pub mod Regions
pub mod Holding
pub mod Sending
pub mod Uniting
pub mod Going
-- Of this crate alone.
mod Partitions
mod Pushes
mod Asking
mod Marks
mod Lists
mod Bodies
mod Standing
mod Reading
mod Replays
mod Members
mod Permits
mod Taking
mod Validity
mod Lanes
mod Writing
