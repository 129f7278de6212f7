-- `Histories` are the changes of a shelf, `Faces` what readers take, `Seats` the rule of these, `Known` what contracts see.
pub mod Histories
pub mod Faces
pub mod Seats
pub mod Known
