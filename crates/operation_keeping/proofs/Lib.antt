-- Shared: other crates cite these.
pub mod Lines
pub mod Counting
pub mod Judged
pub mod Messages
pub mod Ending
pub mod Preparing
pub mod Opening
pub mod Waiting
pub mod Sizes
pub mod Receivers
pub mod OthersLines
pub mod OthersRows
pub mod OthersReads
pub mod OthersEnding
pub mod Others
pub mod OthersRuns
pub mod Since
-- Of this crate alone.
mod Plain
mod Sending
mod Hearing
mod Told
mod Agreeing
mod Left
mod Falling
