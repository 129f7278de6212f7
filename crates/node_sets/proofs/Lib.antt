-- Shared: other crates cite these.
pub mod Bits
