-- `Laws` says what the laws say of what is known of the round that is under way (`RoundKeeping` of `lane_keeping`),
-- `RoundRuns` what calls make of a round, and `RoundShortages` where memory was wanting in one.
pub mod Laws
pub mod RoundRuns
pub mod RoundShortages
