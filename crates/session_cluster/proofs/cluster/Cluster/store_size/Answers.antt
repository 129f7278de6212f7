use Rattle.session_cluster.specs.Cells.{lanes_in}
use Rattle.session_cluster.proofs.NodeSizes.{size_more}
use Rattle.session_cluster.proofs.ShelvedLanes.{below_lanes, lane_index}
use Rattle.session_cluster.proofs.cluster.Cluster.store_size.Goals as goal

pub loop-lane-preserved : goal.loop-lane-preserved
loop-lane-preserved g c =
    let xs = c.deref-lane-items.result.now in
    let k = c.loop-lane.lane-index in
    size_more _ _ _ _ k (lanes_in xs) c.lane-item.result.lane c.loop-lane.invariant (below_lanes xs k c.loop-lane-test.true) (lane_index xs k c.lane-item.result c.lane-item.is) c.entries_at.ensures c.saturating_add-size.ensures
