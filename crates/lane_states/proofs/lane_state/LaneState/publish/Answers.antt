use Rattle.lane_states.proofs.Kept.{kept_more}
use Rattle.lane_states.proofs.lane_state.LaneState.publish.Goals as goal

pub returns-clause-keeps : goal.returns-clause-keeps
returns-clause-keeps c =
    let step = c.states_are_published.ensures.accepted _ _ c.requires.keeps.keeps.legal c.requires.acks _ c.version-version.ensures.valid.few_nodes c.requires.accepted in
    rw c.push_within.ensures.past (kept_more c.requires.keeps (c.states_are_kept.ensures.published _ _ _ _ _ _ _ c.requires.keeps.keeps _ step) tt c.requires.keeps.accepted)
