-- `Carriage` says what becomes of each message of a lane, `Waits` which late ones wait, `Readers` what is read off a
-- journal of each message and what its fate says of that, and `Laws` what the laws say.
pub mod Carriage
pub mod Readers
pub mod Waits
pub mod Laws
pub mod Carrying
