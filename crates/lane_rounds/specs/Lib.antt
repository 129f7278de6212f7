-- `Openings` says how the owner's part opens its state, and what becomes of the journal meanwhile, and `RoundSteps` what a
-- round is told.
pub mod Openings
pub mod RoundSteps
