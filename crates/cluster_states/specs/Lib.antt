-- What a caller needs: `ClusterStates` (what a state says), `StateTexts` (its text), `MarkTests` (what a mark
-- says of a number) and `Publishing` (which states are published). `Scanning` and `MarkWords` serve the code
-- alone.
pub mod ClusterStates
pub mod StateTexts
pub mod MarkTests
pub mod Publishing
pub mod Scanning
pub mod MarkWords
