-- Shared: other crates cite these.
pub mod OrderLaws
pub mod ChunkLists
pub mod ChunkLaws
pub mod RowLaws
