-- `Grammar` says which texts are ids, `Parts` which fault another text has, by tests from the left, and
-- `Faults` the same in the words of the grammar. `Cuts`, where the parts of an id stand, is for the inside
-- of `DocId` alone.
pub mod Grammar
pub mod Parts
pub mod Faults
pub mod Cuts
