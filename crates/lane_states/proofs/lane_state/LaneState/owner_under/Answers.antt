use Rattle.lane_keeping.specs.LaneKeeping.{setting_of}
use Rattle.lane_states.specs.LaneStates.{journal_of}
use Rattle.lane_states.proofs.Owners.{distributor-there, owner-there, none-up}
use Rattle.lane_states.proofs.lane_state.LaneState.owner_under.Goals as goal

pub unreachable-requires : goal.unreachable-requires
unreachable-requires c =
    let x = c.args.self.now in
    owner-there c.args.state.now
    (distributor-there (setting_of x.lane x.rules) (journal_of x) c.requires.keeps.keeps.legal _ c.args.state.now c.requires.published)
    (none-up _ c.owner.result c.in-None.is c.owner.ensures.none)
