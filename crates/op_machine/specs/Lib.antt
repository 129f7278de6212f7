-- What a reader needs first: `Outcomes` (what comes next by what was answered), on `Judging` (what an operation comes
-- to by what it saw) and `Nodes`. `Telling` says what a reply tells, `Plans` which plans can be begun, `Standings`
-- where a machine stands, `Lists` what was answered as a list.
pub mod Nodes
pub mod Judging
pub mod Outcomes
pub mod Plans
pub mod Telling
pub mod Standings
pub mod Lists
