-- `Deciding` says what is known where the owner decides on a row, `Telling` what it says of its rows to the nodes, and
-- `Laws` what the laws say.
pub mod Deciding
pub mod Telling
pub mod Laws
