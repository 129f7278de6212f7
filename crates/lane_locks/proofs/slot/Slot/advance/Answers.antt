use Rattle.std.proofs.Common.{◌≡◌, ◌∙◌, ◌<◌, ℕ, false, Some, sym, ap, subst, slice_get}
use Rattle.lane_locks.specs.declared.slot.Turn.TheVariants as turn
use Rattle.lane_locks.specs.declared.lines.Line.{Line}
use Rattle.lane_locks.specs.declared.lines.Stage.TheVariants.{Going}
use Rattle.lane_locks.specs.Served.{is_going}
use Rattle.lane_locks.specs.Turns.{AdvancesAt}
use Rattle.lane_locks.proofs.Turning.{going-is, stage-within, with-stage, place-within, advance-left, gone-kept, gone-at}
use Rattle.lane_locks.proofs.slot.Slot.advance.Goals as goal

pub returns-then-not-is_going-clause-advances : goal.returns-then-not-is_going-clause-advances
returns-then-not-is_going-clause-advances g c =
    let x = c.self.inside in
    let test : is_going (slice_get x.stages.items c.args.place) ≡ false = rw c.deref.ensures.value at (sym c.is_going.ensures ∙ c.if-not-is_going.true) in
    subst (λ t. AdvancesAt (g.S.Segment.lines t.number) c.args.place (t.lane).lane (t.lane).lane turn.Left) c.self.view_is
    (advance-left g.S.Segment.feeders (g.S.Segment.lines x.number) (g.S.Segment.began x.number) x.lane.lane x.lines.items x.stages.items c.self.invariant.4 c.args.place test)

pub index-requires : goal.index-requires
index-requires g c =
    let x = c.self.inside in
    let at : slice_get x.stages.items c.args.place ≡ Some Going = going-is (slice_get x.stages.items c.args.place) (rw c.deref.ensures.value at (sym c.is_going.ensures ∙ c.if-not-is_going.false)) in
    subst (λ (n : ℕ). c.args.place < n) (sym x.lines.ok.0)
    (stage-within g.S.Segment.feeders (g.S.Segment.lines x.number) (g.S.Segment.began x.number) x.lane.lane x.lines.items x.stages.items c.self.invariant.4 c.args.place Going at)

pub go_on-answer-requires : goal.go_on-answer-requires
go_on-answer-requires g c =
    let x = c.self.inside in
    let k = c.self.invariant.4 in
    let at : slice_get x.stages.items c.args.place ≡ Some Going = going-is (slice_get x.stages.items c.args.place) (rw c.deref.ensures.value at (sym c.is_going.ensures ∙ c.if-not-is_going.false)) in
    let F = g.S.Segment.feeders in
    let lines = g.S.Segment.lines x.number in
    let began = g.S.Segment.began x.number in
    let l : Line = c.index.result.now in
    let found = with-stage F lines began x.lane.lane x.lines.items x.stages.items k c.args.place l Going at c.index.ensures in
    ((k.served).stages_are).each c.args.place l Going found at

pub note_advance-requires : goal.note_advance-requires
note_advance-requires g c =
    let x = c.self.inside in
    let k = c.self.invariant.4 in
    let at : slice_get x.stages.items c.args.place ≡ Some Going = going-is (slice_get x.stages.items c.args.place) (rw c.deref.ensures.value at (sym c.is_going.ensures ∙ c.if-not-is_going.false)) in
    let F = g.S.Segment.feeders in
    let lines = g.S.Segment.lines x.number in
    let began = g.S.Segment.began x.number in
    let l : Line = c.index.result.now in
    let found = with-stage F lines began x.lane.lane x.lines.items x.stages.items k c.args.place l Going at c.index.ensures in
    place-within F lines began x.lane.lane x.lines.items x.stages.items k c.args.place l found

pub invariant_of-self : goal.invariant_of-self
invariant_of-self g c =
    let x = c.self.inside in
    let k = c.self.invariant.4 in
    let at : slice_get x.stages.items c.args.place ≡ Some Going = going-is (slice_get x.stages.items c.args.place) (rw c.deref.ensures.value at (sym c.is_going.ensures ∙ c.if-not-is_going.false)) in
    let F = g.S.Segment.feeders in
    let lines = g.S.Segment.lines x.number in
    let began = g.S.Segment.began x.number in
    let l : Line = c.index.result.now in
    let found = with-stage F lines began x.lane.lane x.lines.items x.stages.items k c.args.place l Going at c.index.ensures in
    let s = c.go_on-answer in (
      c.self.invariant.0,
      c.self.invariant.1,
      c.self.invariant.2,
      ap g.H.Shelf.name s.ensures.shelf ∙ c.self.invariant.3,
      gone-kept F lines began x.lane.lane x.lines.items x.stages.items k c.args.place l found s.new.lane.lane s.ensures.holds at s.result s.ensures.advances c.note_advance.new.stages.items c.note_advance.ensures.stages,
    )

pub returns-clause-advances : goal.returns-clause-advances
returns-clause-advances g c =
    let x = c.self.inside in
    let k = c.self.invariant.4 in
    let at : slice_get x.stages.items c.args.place ≡ Some Going = going-is (slice_get x.stages.items c.args.place) (rw c.deref.ensures.value at (sym c.is_going.ensures ∙ c.if-not-is_going.false)) in
    let F = g.S.Segment.feeders in
    let lines = g.S.Segment.lines x.number in
    let began = g.S.Segment.began x.number in
    let l : Line = c.index.result.now in
    let found = with-stage F lines began x.lane.lane x.lines.items x.stages.items k c.args.place l Going at c.index.ensures in
    let s = c.go_on-answer in
    subst (λ t. AdvancesAt (g.S.Segment.lines t.number) c.args.place (t.lane).lane s.new.lane.lane c.note_advance.result) c.self.view_is
    (gone-at F lines began x.lane.lane x.lines.items x.stages.items k c.args.place l found s.new.lane.lane s.ensures.holds s.result s.ensures.advances c.note_advance.result c.note_advance.ensures.turn)
