-- Shared: other crates cite these.
pub mod PartLaws
pub mod UpkeepLaws
-- Of this crate alone.
mod Firsts
