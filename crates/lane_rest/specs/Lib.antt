-- `Rest` says when a lane is at rest, over its journal. `Sets` and `Targets` are the words below.
pub mod Sets
pub mod Targets
pub mod Rest
