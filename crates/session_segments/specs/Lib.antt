-- `Parts` says what a session does at once, `FedDeeds` which deeds that is in each lane, `Fed` what a segment makes of the
-- cluster and what its lines are answered, `Sorted` how the lines of a segment are sorted by lanes, and `Lanes` how the lanes run them.
pub mod Parts
pub mod FedDeeds
pub mod Fed
pub mod Sorted
pub mod Lanes
