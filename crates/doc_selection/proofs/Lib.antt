mod Maps
mod TermReading
mod Reading
mod Saying
