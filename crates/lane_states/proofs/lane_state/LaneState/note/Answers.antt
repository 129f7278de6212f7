use Rattle.lane_states.proofs.Kept.{kept_more}
use Rattle.lane_states.proofs.Counts.{tells-nothing}
use Rattle.lane_states.proofs.lane_state.LaneState.note.Goals as goal

pub returns-clause-keeps : goal.returns-clause-keeps
returns-clause-keeps c = rw c.push_within.ensures.past
    (kept_more c.requires.keeps (c.events_are_kept.ensures.quiet _ _ _ _ _ _ _ c.requires.keeps.keeps _ c.requires.quiet c.requires.legal) (tells-nothing c.args.event c.requires.quiet c.requires.no_stop) c.requires.keeps.accepted)
