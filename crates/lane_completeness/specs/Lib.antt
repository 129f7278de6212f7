-- `Completeness` says when a line ran undisturbed, and how it ends then, `Causes` why one ends with too few answers.
pub mod Completeness
pub mod Causes
