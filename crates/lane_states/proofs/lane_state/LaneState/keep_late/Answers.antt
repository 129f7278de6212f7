use Rattle.std.proofs.Common.{rules, ◌≡◌, length, arith}
use Rattle.lane_states.specs.LaneStates.{journal_of}
use Rattle.lane_states.proofs.Kept.{kept_late, length-kept}
use Rattle.lane_states.proofs.LaneSteps.{past-length}
use Rattle.lane_states.proofs.lane_state.LaneState.keep_late.Goals as goal

pub returns-clause-keeps : goal.returns-clause-keeps
returns-clause-keeps c = rw (c.keep.ensures, c.from.ensures) (kept_late c.requires.keeps _ c.requires.flight (search rules))

pub returns-clause-more : goal.returns-clause-more
returns-clause-more c = rw c.keep.ensures (length-kept _ _)

pub overflow_add-number : goal.overflow_add-number
overflow_add-number c =
    let x = c.args.self.now in
    let same : length (journal_of x) ≡ length x.journal.events.items = past-length x.journal.events.items in
    omega (arith, same, x.journal.events.ok.0, x.journal.events.small, c.requires.keeps.counted, c.from.ensures, c.ranges.later.fits)
