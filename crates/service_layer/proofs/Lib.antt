mod Treating
mod Tellings
mod Readiness
mod Placed
