use Rattle.std.proofs.Common.{rules, ◌≡◌, ◌<◌, Some, length, slice_set}
use Rattle.distributor_part.specs.Parts.{Part}
use Rattle.lane_keeping.specs.LaneKeeping.{part_in}
use Rattle.lane_journals.specs.Meanings.{history}
use Rattle.lane_states.specs.LaneStates.{journal_of}
use Rattle.lane_states.proofs.Places.{older-below, part-at, heard-part}
use Rattle.lane_keeping.proofs.Parts.{part-others}
use Rattle.lane_states.proofs.Kept.{kept_more}
use Rattle.lane_states.proofs.Accepting.{accepted-at, accepted-fresh}
use Rattle.lane_states.proofs.lane_state.LaneState.hear_newest.Goals as goal

pub returns-clause-keeps : goal.returns-clause-keeps
returns-clause-keeps c =
    let x = c.args.self.now in
    let d = c.args.distributor in
    let p : Part = c.index_mut.result.now in
    let within : d < length x.parts.items = search rules in
    let is : part_in x.lane x.rules x.parts.items d ≡ p = part-at x.lane x.rules x.parts.items d p within (rw c.from.ensures at c.index_mut.ensures.value) in
    rw (c.push_within.ensures.past, c.version.ensures.value, c.from.ensures)
    (kept_more c.requires.keeps (c.states_are_kept.ensures.heard _ _ _ _ _ _ _ c.requires.keeps.keeps (slice_set x.parts.items d c.hear.new.self) c.args.state.now d
    c.requires.newest c.requires.idle (older-below _ _ c.requires.older)
    (heard-part x.lane x.rules (journal_of x) x.parts.items d p c.hear.new.self c.args.state.now within is (c.requires.keeps.keeps.parts_are d) c.hear.ensures)
    (part-others x.lane x.rules x.parts.items d c.hear.new.self)) tt
    (accepted-at x.lane x.rules (journal_of x) x.parts.items d p c.hear.new.self within is (λ h. accepted-fresh (history (journal_of x)) p c.hear.new.self p.number p.lane p.rules (Some c.args.state.now) c.hear.ensures) c.requires.keeps.accepted))
