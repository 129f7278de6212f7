-- `Pieces` says what each call makes of a list of pieces, `Told` where it is refused, `Holdings` what a node has
-- of pieces and what it keeps of them, and `Lives` what accepted changes leave. `Runs` and `Places` say where
-- pieces lie; only this crate speaks of these.
pub mod PieceCodes
pub mod Pieces
pub mod Told
pub mod Holdings
pub mod Lives
pub mod Runs
pub mod Places
