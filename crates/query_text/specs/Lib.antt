-- What a caller needs: `Grammar` and `Terms` (which texts are queries, and what they say), `Formulas` (what an
-- expression says) and `Truth` (of which documents a query is true). `Parts`, `Machine` and `Codes` serve the code
-- alone.
pub mod Terms
pub mod Formulas
pub mod Grammar
pub mod Truth
pub mod Codes
pub mod Parts
pub mod Machine
