-- `NodesKept` says when nodes are what a journal says, and `NodesTold` what a view is after they were told.
pub mod NodesKept
pub mod NodesTold
