use Rattle.std.proofs.Common.{◌≡◌, map}
use Rattle.shelves.specs.Plain.{Plain, ShowsPlain}
use Rattle.lane_core.specs.Showing.{IsSettled}
use Rattle.session_cluster.specs.Cells.{lanes_in, shelves_in}
use Rattle.session_cluster.specs.Steps.{first_view}
use Rattle.session_cluster.proofs.Elements.{Below}
use Rattle.session_cluster.proofs.searching.settle_all.Given as goal

-- the lanes so far are settled, and nothing else changed
abbrev pub invariant-loop-lane : goal.invariant-loop-lane
invariant-loop-lane g l =
    (lanes_in l.lanes ≡ lanes_in l.initial.lanes) × ((map first_view (shelves_in l.lanes) ≡ map first_view (shelves_in l.initial.lanes)) × Below (IsSettled ShowsPlain (λ (p : Plain). p.pending)) l.lane-index l.lanes)
