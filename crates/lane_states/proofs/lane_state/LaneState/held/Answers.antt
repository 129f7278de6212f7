use Rattle.std.proofs.Common.{◌∙◌, ap}
use Rattle.lane_states.specs.LaneStates.{journal_of, part_of}
use Rattle.lane_keeping.specs.Tidings.{version_held}
use Rattle.lane_states.proofs.Places.{version-held}
use Rattle.lane_states.proofs.lane_state.LaneState.held.Goals as goal

pub returns : goal.returns
returns c =
    let x = c.args.self.now in
    c.version_held.ensures ∙ ap version_held c.state_at.ensures ∙ version-held x.lane x.rules (journal_of x) c.args.distributor (part_of x c.args.distributor) (c.requires.keeps.keeps.parts_are c.args.distributor)
