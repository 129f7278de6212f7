-- `Notes` says what is known of a row from its last round, `Settling` what comes next for a row that is settled, and
-- `Turns` what comes next wherever the machine stands; `Going` how it goes from there and that it ends.
pub mod Notes
pub mod Settling
pub mod Places
pub mod Turns
pub mod Going
pub mod Abstract
pub mod Allowed
