pub mod GroupText
pub mod ReportText
pub mod Writing
pub mod Telling
