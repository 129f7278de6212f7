-- Shared: other crates cite these.
pub mod PieceLaws
pub mod Laid
pub mod Serials
pub mod ApplyLaws
pub mod KeyLaws
pub mod FreshLaws
pub mod KeptLaws
-- Of this crate alone.
mod RunLaws
mod Finding
mod PlaceLaws
mod ToldLaws
mod SerialLaws
mod Scans
