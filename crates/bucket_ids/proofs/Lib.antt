-- Shared: other crates cite these.
pub mod LowBits
pub mod KeySets
-- Of this crate alone.
mod Turned
mod HexDigits
