use Rattle.std.proofs.Common.{◌≡◌}
use Rattle.session_cluster.specs.Cells.{lanes_in, shelves_in}
use Rattle.session_cluster.proofs.Passing.{PassedSoFar}
use Rattle.session_cluster.proofs.every_lane.maintain_all.Given as goal

-- the lanes so far made their passes
abbrev pub invariant-loop-lane : goal.invariant-loop-lane
invariant-loop-lane g l = PassedSoFar l.lane-index (lanes_in l.initial.lanes) (lanes_in l.lanes) l.spans.items × (shelves_in l.lanes ≡ shelves_in l.initial.lanes)
