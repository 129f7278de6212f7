use Rattle.std.proofs.Common.{length}
use Rattle.lane_locks.specs.Runs.{value_at, lines_at, opening_at}
use Rattle.lane_locks.proofs.segment.run_segment.Given as goal

abbrev pub ghosts-run_named-S-Ledger : goal.ghosts-run_named-S-Ledger
ghosts-run_named-S-Ledger g a = record { name = a.blank.name; parts = length a.lanes.items }

abbrev pub ghosts-run_named-S-Segment : goal.ghosts-run_named-S-Segment
ghosts-run_named-S-Segment g a = record { began = λ k. value_at a.lanes.items k; lines = λ k. lines_at a.lanes.items k; feeders = length a.feeders.now; shelf = λ k. opening_at a.lanes.items k }
