use Rattle.std.proofs.Common.{◌≡◌, None, refl}
use Rattle.std.specs.Option.{option_copied}
use Rattle.lane_keeping.specs.LaneKeeping.{node_in}
use Rattle.lane_states.proofs.Nobodies.{none-held}
use Rattle.lane_states.proofs.lane_state.LaneState.entries_at.Goals as goal

pub returns-in-None : goal.returns-in-None
returns-in-None c =
    let none : option_copied c.node_at.result ≡ None = rw c.in-None.is refl in
    none-held (option_copied c.node_at.result) (node_in c.args.self.now.nodes.items c.args.number) none c.node_at.ensures
