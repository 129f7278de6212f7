mod Prefixes
mod Adding
mod Rules
mod Facing
