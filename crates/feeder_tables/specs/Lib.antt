-- `Lines` says which lines a lane can be asked for.
pub mod Lines
