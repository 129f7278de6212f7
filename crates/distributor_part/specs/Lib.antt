-- `Parts` says what a distributor's part is and `Orders` which ideal orders it keeps, `Targets` where a row's replicas are
-- to be and which nodes are to be ready, `Steps` which step comes next and what the calls make of the part, and `Upkeep`
-- what those of upkeep do.
pub mod Orders
pub mod Parts
pub mod Steps
pub mod Targets
pub mod Upkeep
