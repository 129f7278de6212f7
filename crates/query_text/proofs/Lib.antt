mod TermReading
mod QueryReading
mod QueryRuns
mod Reading
mod Spelled
