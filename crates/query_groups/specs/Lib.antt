-- What a caller needs: `Groups` and `Outputs` (which lists of tokens are groups, and what they say), `Cues` (the words and
-- signs of queries) and `Grouping` (how groups are read).
pub mod Cues
pub mod Outputs
pub mod Groups
pub mod Grouping
