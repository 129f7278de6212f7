mod Regions
mod Stages
mod Readings
