use Rattle.std.proofs.Common.{◌≡◌, length, refl, arith}
use Rattle.lane_states.specs.LaneStates.{journal_of}
use Rattle.lane_states.proofs.Kept.{kept_sent, sent-before}
use Rattle.lane_states.proofs.LaneSteps.{past-length}
use Rattle.lane_states.proofs.lane_state.LaneState.send_message.Goals as goal

pub overflow_add-self : goal.overflow_add-self
overflow_add-self c =
    let x = c.args.self.now in
    let same : length (journal_of x) ≡ length x.journal.events.items = past-length x.journal.events.items in
    omega (arith, same, x.journal.events.ok.0, x.journal.events.small, c.requires.keeps.counted)

pub returns-clause-keeps : goal.returns-clause-keeps
returns-clause-keeps c = rw (c.push_within.ensures.past, c.requires.noted)
    (kept_sent c.requires.keeps (c.events_are_kept.ensures.sent _ _ _ _ _ _ _ c.requires.keeps.keeps c.args.message.now c.requires.legal c.requires.brings c.requires.whole).keeps)

pub returns-clause-sent : goal.returns-clause-sent
returns-clause-sent c = rw (c.push_within.ensures.past, c.requires.noted)
    (c.events_are_kept.ensures.sent _ _ _ _ _ _ _ c.requires.keeps.keeps c.args.message.now c.requires.legal c.requires.brings c.requires.whole).just

pub returns-clause-grows : goal.returns-clause-grows
returns-clause-grows c = rw (c.push_within.ensures.past, c.requires.noted) refl

pub returns-clause-before : goal.returns-clause-before
returns-clause-before c = sent-before c.requires.keeps
