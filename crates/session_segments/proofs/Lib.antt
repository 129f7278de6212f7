-- Shared: other crates cite these.
pub mod PartPlaces
pub mod PartLists
pub mod SegmentFronts
pub mod SameLines
pub mod KeptParts
-- Of this crate alone.
mod SortedLists
mod LaneRuns
mod AnsweredLines
mod SegmentWhole
