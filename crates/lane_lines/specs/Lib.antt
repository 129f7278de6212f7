-- `OpeningRuns` says what is known between the steps of an opening that a line has made, `RoundLines` whose operation a round
-- is for; `Readying` and `FilledRows` what an operation comes to that isn't prepared yet, `Steps` what it does once it is
-- prepared, and `Closing` what its close asks.
pub mod Closing
pub mod RoundLines
pub mod Steps
pub mod Readying
pub mod OpeningRuns
pub mod FilledRows
