-- `Placing` says where the documents of a node's parts are, and `Steps` has words for the steps of the code. What a node is,
-- replies and tells is said in `node_model`.
pub mod Placing
pub mod Steps
