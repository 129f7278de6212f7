-- `Undisturbed` says which spans nothing disturbs, `Scripts` which script a journal says, and `Telling` what a message
-- of such a span makes of the nodes.
pub mod Undisturbed
pub mod Telling
pub mod Scripts
pub mod Rounding
pub mod Noting
pub mod Running
pub mod Ending
