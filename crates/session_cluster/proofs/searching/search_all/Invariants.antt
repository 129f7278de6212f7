use Rattle.session_cluster.specs.Cells.{lanes_in}
use Rattle.session_cluster.proofs.SearchLaws.{ReadSoFar}
use Rattle.session_cluster.proofs.searching.search_all.Given as goal

-- the lanes so far were read
abbrev pub invariant-loop-lane : goal.invariant-loop-lane
invariant-loop-lane g l = ReadSoFar l.query l.version l.lane-index (lanes_in l.lanes) l.fronts.items l.sum
