-- Shared: other crates cite these.
pub mod RowLaws
