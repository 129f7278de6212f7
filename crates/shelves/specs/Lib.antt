-- `Shelves` says what becomes of a shelf's changes, `Plain` what a plain shelf is.
pub mod Shelves
pub mod Plain
