-- `Said` says what words mean, by the command of `Command`.
pub mod Command
pub mod Said
