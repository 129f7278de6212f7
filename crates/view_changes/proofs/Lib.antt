-- Shared: other crates cite these.
pub mod CoverLaws
pub mod NodeLaws
pub mod RegionLaws
pub mod ShownLaws
pub mod OrderLaws
pub mod OpeningLaws
pub mod ViewLaws
-- Of this crate alone.
mod Members
mod DeedLaws
mod LaneLaws
mod RoomLaws
mod RoomSteps
