-- Shared: other crates cite these.
pub mod SlotLists
pub mod StampLaws
pub mod JoinLaws
-- Of this crate alone.
mod KeptLaws
mod StoredLaws
mod RunLaws
mod MergeLaws
mod MergedRows
mod CountLaws
mod AloneLaws
mod NewerLaws
mod RemovalLaws
