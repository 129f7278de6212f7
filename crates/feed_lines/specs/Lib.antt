-- A reader begins with Tests and Meaning; Lines says what each kind of line is in one record.
pub mod Keys
pub mod Values
pub mod Tests
pub mod Meaning
pub mod Lines
