-- What a caller needs: `Grammar` and `Atoms` (which texts are selections), `Saying` (what a text says, as a
-- function), and `Truth` (of which documents they are true). `Parts` serves the code alone.
pub mod Atoms
pub mod Grammar
pub mod Parts
pub mod Saying
pub mod Truth
