use Rattle.std.proofs.Common.{◌≡◌, ℕ}
use Rattle.session_cluster.specs.Cells.{lanes_in}
use Rattle.session_cluster.specs.Keeping.{AreOpenTo}
use Rattle.session_cluster.specs.Steps.{EachLane, IsSettledLane}
use Rattle.session_cluster.proofs.session.open_lanes.Given as goal

-- so many lanes were made, and what the carriers plan stays
abbrev pub invariant-loop-lane : goal.invariant-loop-lane
invariant-loop-lane g l =
    AreOpenTo l.setting (g.C.Carriers.plans l.fn.carriers) l.lane (lanes_in l.lanes.items) × (EachLane IsSettledLane l.lanes.items × ((other : ℕ) → g.C.Carriers.plans l.carriers other ≡ g.C.Carriers.plans l.fn.carriers other))
