-- Shared: other crates cite these.
pub mod Telling
-- Of this crate alone.
mod MarkSets
mod Sizes
mod Numerals
mod Counting
mod Moving
mod MarkTexts
mod MarkMoves
mod SpaceMoves
mod GroupMoves
mod GoingOn
mod Reaching
mod TextSizes
