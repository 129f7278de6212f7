-- Shared: other crates cite these.
pub mod FeedPlaces
pub mod ReaderStarts
-- Of this crate alone.
mod FaultLaws
mod LineLaws
mod ReaderLaws
mod Seeking
