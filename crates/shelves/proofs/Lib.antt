pub mod Showing
pub mod ViewSteps
