use Rattle.std.proofs.Common.{map, take}
use Rattle.session_cluster.specs.Cells.{lanes_in}
use Rattle.session_cluster.specs.Sizes.{HasSize}
use Rattle.session_cluster.proofs.LaneLists.{journal_is}
use Rattle.session_cluster.proofs.cluster.Cluster.store_size.Given as goal

-- the entries of the lanes so far
abbrev pub invariant-loop-lane : goal.invariant-loop-lane
invariant-loop-lane g l = HasSize l.node (map journal_is (take l.lane-index (lanes_in l.lane-items))) l.size
