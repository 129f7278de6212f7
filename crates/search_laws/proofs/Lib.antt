mod Counting
mod Exactly
mod Filling
