-- Shared: other crates cite these.
pub mod CueTokens
pub mod Outputs
pub mod GroupReading
pub mod GroupWhole
pub mod GroupRuns
