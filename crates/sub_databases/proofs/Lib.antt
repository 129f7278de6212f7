-- Of this crate alone.
mod RowSteps
mod PartLaws
mod ListLaws
mod ReadyLaws
mod UniteLaws
