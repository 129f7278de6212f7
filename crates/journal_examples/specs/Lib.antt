-- `Lives` is a legal journal, `WrongSteps` what none has, and `WrongCarriage` has journals whose messages had other
-- fates than they were given.
pub mod Lives
pub mod WrongSteps
pub mod WrongCarriage
