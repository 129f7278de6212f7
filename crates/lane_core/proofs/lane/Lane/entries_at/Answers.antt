use Rattle.lane_keeping.specs.LaneKeeping.{node_in}
use Rattle.lane_core.proofs.lane.Lane.entries_at.Goals as goal

pub returns : goal.returns
returns g c =
    let x = c.self.inside.work.state in
    rw (← c.self.view_is) (record {
      entries = (node_in x.nodes.items c.args.node).entries;
      are_held = (c.self.invariant.works.kept.keeps.nodes_are c.args.node).stamps_are;
      so_many = c.entries_at.ensures;
    })
