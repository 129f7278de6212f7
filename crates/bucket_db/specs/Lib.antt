-- `Rows` says what a database of rows is, `Answers` which rows the answers of nodes give, and `Changes`
-- what the calls make of them; `Dividing` and `Order` serve private functions alone.
pub mod Answers
pub mod Changes
pub mod Dividing
pub mod Order
pub mod Rows
