-- Shared: other crates cite these.
pub mod Elements
pub mod LaneLists
pub mod DeedLists
pub mod AlikeDeeds
pub mod KeptLanes
pub mod SpanLists
pub mod FrontLists
pub mod SearchLaws
pub mod SessionSteps
pub mod Moving
pub mod Passing
pub mod ShelvedLanes
-- Of this crate alone.
mod NotedLists
mod Reborrowed
mod InLane
mod Openings
mod NodeSizes
mod Reports
