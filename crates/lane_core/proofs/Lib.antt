-- Shared: other crates cite these.
pub mod Served
pub mod Shelves
pub mod Places
-- Of this crate alone.
mod Blocking
mod LaneJobs
mod Shown
mod Under
mod Firsts
mod JobEnds
mod Stamps
mod Working
mod Fitting
mod Giving
mod Shortfalls
mod Stepping
mod JobsGo
mod Searching
mod Idling
mod Upkeeping
mod Told
mod Newest
mod Undisturbed
mod Running
mod LineRuns
mod UpkeepSpans
mod Lasting
mod JobLists
