use Rattle.std.proofs.Common.{◌≡◌, length}
use Rattle.lane_locks.specs.declared.lanes.ReadyLane.{ReadyLane}
use Rattle.lane_locks.specs.Lanes.{EachAt}
use Rattle.lane_locks.specs.Runs.{MayRun}
use Rattle.feeder_tables.proofs.run.ready_lanes.Given as goal

abbrev pub invariant-loop-lane : goal.invariant-loop-lane
invariant-loop-lane l =
    (length l.made.items ≡ l.lane) × EachAt (λ _ (r : ReadyLane _ _ _ _). MayRun l.feeders (r.lane).lane r.list) l.made.items
