use Rattle.std.proofs.Common.{rules, ◌≡◌, ◌<◌, ◌∙◌, sym, ap, subst, length, slice_set, is_some}
use Rattle.bucket_ids.specs.Buckets.{Low, IsIn}
use Rattle.distributor_part.specs.Parts.{Part}
use Rattle.lane_keeping.specs.LaneKeeping.{part_in}
use Rattle.lane_journals.specs.Meanings.{history}
use Rattle.lane_states.specs.LaneStates.{journal_of}
use Rattle.lane_states.proofs.Places.{part-at}
use Rattle.lane_keeping.proofs.Parts.{part-others}
use Rattle.lane_states.proofs.Kept.{kept_more}
use Rattle.lane_lines.proofs.ClosedParts.{closed-part, closed-resting, part-there, some-rows, accepted-closed}
use Rattle.lane_states.proofs.Accepting.{accepted-at}
use Rattle.lane_lines.proofs.closing.acknowledge.Goals as goal

pub index_mut-requires : goal.index_mut-requires
index_mut-requires c =
    let x = c.args.lane.now in
    let within : c.args.distributor < length x.parts.items = part-there x.lane x.rules x.parts.items c.args.distributor c.requires.may.state
    (c.owners_act.ensures.heard _ _ _ _ _ _ _ c.requires.keeps.keeps _ _ c.requires.may.acting) in
    rw c.from.ensures (search rules)

pub closed-requires-clause-opened : goal.closed-requires-clause-opened
closed-requires-clause-opened c =
    let x = c.args.lane.now in
    let d = c.args.distributor in
    let p : Part = c.index_mut.result.now in
    let within : d < length x.parts.items = part-there x.lane x.rules x.parts.items d c.requires.may.state
    (c.owners_act.ensures.heard _ _ _ _ _ _ _ c.requires.keeps.keeps _ _ c.requires.may.acting) in
    let is : part_in x.lane x.rules x.parts.items d ≡ p = part-at x.lane x.rules x.parts.items d p within (rw c.from.ensures at c.index_mut.ensures.value) in
    some-rows p.rows (sym c.requires.may.opened_is ∙ c.owners_act.ensures.opened _ _ _ _ _ _ _ c.requires.keeps.keeps _ _ c.requires.may.acting ∙ ap (λ (q : Part). is_some q.rows) is)

pub closed-requires-clause-key : goal.closed-requires-clause-key
closed-requires-clause-key c =
    let x = c.args.lane.now in
    let d = c.args.distributor in
    let p : Part = c.index_mut.result.now in
    let within : d < length x.parts.items = part-there x.lane x.rules x.parts.items d c.requires.may.state
    (c.owners_act.ensures.heard _ _ _ _ _ _ _ c.requires.keeps.keeps _ _ c.requires.may.acting) in
    let is : part_in x.lane x.rules x.parts.items d ≡ p = part-at x.lane x.rules x.parts.items d p within (rw c.from.ensures at c.index_mut.ensures.value) in
    subst (λ (b : Low). IsIn b c.args.key) (sym (c.requires.keeps.keeps.parts_are d).lane_is ∙ ap (λ (q : Part). q.lane) is) c.requires.may.in_lane

pub returns-clause-keeps : goal.returns-clause-keeps
returns-clause-keeps c =
    let x = c.args.lane.now in
    let d = c.args.distributor in
    let p : Part = c.index_mut.result.now in
    let m = c.requires.may in
    let within : d < length x.parts.items = part-there x.lane x.rules x.parts.items d m.state
    (c.owners_act.ensures.heard _ _ _ _ _ _ _ c.requires.keeps.keeps _ _ m.acting) in
    let is : part_in x.lane x.rules x.parts.items d ≡ p = part-at x.lane x.rules x.parts.items d p within (rw c.from.ensures at c.index_mut.ensures.value) in
    rw (c.push_within.ensures.past, c.from.ensures)
    (kept_more c.requires.keeps (c.marks_are_kept.ensures.acked _ _ _ _ _ _ _ c.requires.keeps.keeps (slice_set x.parts.items d c.closed.new.self) d m.state
    c.args.line c.args.key c.args.answered m.id c.args.stamp m.acting
    (closed-part x.lane x.rules x.parts.items d p c.closed.new.self c.args.key c.args.answered within is c.closed.ensures)
    (part-others x.lane x.rules x.parts.items d c.closed.new.self) m.begun m.key_is m.answers m.legal) tt
    (accepted-at x.lane x.rules (journal_of x) x.parts.items d p c.closed.new.self within is (accepted-closed (history (journal_of x)) p c.closed.new.self c.args.key c.args.answered c.closed.ensures) c.requires.keeps.accepted))

pub returns-clause-resting : goal.returns-clause-resting
returns-clause-resting c =
    let x = c.args.lane.now in
    let d = c.args.distributor in
    let p : Part = c.index_mut.result.now in
    let within : d < length x.parts.items = part-there x.lane x.rules x.parts.items d c.requires.may.state
    (c.owners_act.ensures.heard _ _ _ _ _ _ _ c.requires.keeps.keeps _ _ c.requires.may.acting) in
    let is : part_in x.lane x.rules x.parts.items d ≡ p = part-at x.lane x.rules x.parts.items d p within (rw c.from.ensures at c.index_mut.ensures.value) in
    rw c.from.ensures (closed-resting x.lane x.rules x.parts.items d p c.closed.new.self c.args.key c.args.answered within is c.closed.ensures)
