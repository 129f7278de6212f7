pub mod Members
pub mod Lengths
pub mod Rising
mod Steps
mod Loops
mod Texts
