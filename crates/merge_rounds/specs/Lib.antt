-- `Rounds` says what is sent in a round and what an answer makes of it, `Runs` what stands after all Reads,
-- and `RoundCodes` that rounds are data.
pub mod RoundCodes
pub mod Rounds
pub mod Runs
