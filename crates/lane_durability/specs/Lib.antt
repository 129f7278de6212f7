-- `Laws` has what the three facts say, `Durability` the law on versions and the theorem, `KeptBelow` the events of
-- smaller versions of a journal as it is kept.
pub mod Laws
pub mod Durability
pub mod KeptBelow
