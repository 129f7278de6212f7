-- `Passing` says what holds between the steps of a pass, and `Maintaining` before its first one; `CameBack` what is known of
-- a message that came back, `Notes` what is known of a row from its last round, `RoundNotes` what a round makes of it, and
-- `Noted` what is known of all notes; `Deciding` what a decision leaves, and `Sending` what is said to a node of a row.
-- `UnderWay` says what the machine of a pass knows and which steps may come, `Quiet` what a step makes of nodes and rows
-- where nothing is lost or late, `Taking` what it does whatever is lost, and `Rests` that the lane is at rest then.
pub mod Passing
pub mod CameBack
pub mod Notes
pub mod Noted
pub mod RoundNotes
pub mod Maintaining
pub mod Deciding
pub mod UnderWay
pub mod Quiet
pub mod Sending
pub mod Taking
pub mod Rests
