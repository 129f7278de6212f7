-- Shared: other crates cite these.
pub mod NodeLaws
-- Of this crate alone.
mod NextLaws
mod ListLaws
