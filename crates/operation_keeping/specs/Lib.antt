-- `OperationKeeping` says what is known of an operation that is under way, `Laws` what the laws say, `Left` how many
-- messages are left. `Others` says which events are others'.
pub mod OperationKeeping
pub mod Laws
pub mod Left
pub mod RuleBounds
pub mod Wants
pub mod Shortages
pub mod Others
