-- What a pass of upkeep does that nothing disturbs: `Nodes` what a node makes of its messages, `Shapes` how its buckets
-- stand to a row, `Rows` what the owner knows of a row and what a round makes of it, `Settling` what is done for one row
-- after the other, and `Passes` the whole pass. `Resting` says where it may begin and where it ends, `Worlds` which nodes
-- and rows are those of a journal, `Sweeps` how joins and splits go through the rows as they stand, `Lanes` what a lane's
-- own node is among them, and `Scripts` what a journal says of messages that were taken twice. `Loops` goes over the nodes
-- one after the other. `Found` has the settings of a pass under a state, `Shown` how pieces stand to a bucket, and
-- `Counted` which entries of a bucket are held. `Turns` goes through a pass turn by turn, `Messages` has what its turns say to
-- nodes, and `Orders` what it asks of the rows where it begins.
pub mod Nodes
pub mod Shapes
pub mod Rows
pub mod Settling
pub mod Passes
pub mod Resting
pub mod Sweeps
pub mod Worlds
pub mod Lanes
pub mod Scripts
pub mod Loops
pub mod Found
pub mod Shown
pub mod Counted
pub mod Turns
pub mod Messages
pub mod Orders
