-- `Tables` says what a call of a lane is answered while three operations are under way there.
pub mod Tables
-- `Scripted` says how far the lines of a script are.
pub mod Scripted
