use Rattle.std.proofs.Common.{◌≡◌}
use Rattle.lane_calls.specs.declared.progress.UnderWay.{UnderWay}
use Rattle.lane_core.specs.Runs.{IsAlone, IsGoing, left_in}
use Rattle.lane_core.proofs.lane.finish.Given as goal

-- the operation, which began alone, went on so far
abbrev pub invariant-loop-lane : goal.invariant-loop-lane
invariant-loop-lane g l = ((u : UnderWay) × IsAlone l.line l.initial.lane.lane u × IsGoing u l.initial.lane.lane l.lane.lane) × (l.lane.shelf ≡ l.initial.lane.shelf)

abbrev pub decreases-loop-lane : goal.decreases-loop-lane
decreases-loop-lane g l = left_in l.lane.lane.under_way
