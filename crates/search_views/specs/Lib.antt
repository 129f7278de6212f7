-- `Answers` says what a search answers, `Summed` which views a sum has.
pub mod Answers
pub mod Summed
