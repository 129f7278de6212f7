-- `Spans` says by which events an upkeep lets a journal grow, `Causes` what it comes to, `Watches` what a carrier that
-- watches remembers, and `Scans` what is seen of a span event by event.
pub mod Spans
pub mod Causes
pub mod Watches
pub mod Scans
