-- Shared: other crates cite these.
pub mod Runs
pub mod TokenLaws
-- Of this crate alone.
mod BodyReading
mod TokenReading
mod NumberReading
mod Finding
mod ValueLaws
mod LiteralLaws
mod IntegerLaws
mod Known
