-- `Nodes` says what a node has and what an accepted body makes of it, `Takes` what is replied to a message, and `Telling` which
-- changes of a view the node tells of it.
pub mod Nodes
pub mod Takes
pub mod Telling
