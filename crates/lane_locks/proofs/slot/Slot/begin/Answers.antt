use Rattle.std.proofs.Common.{◌≡◌, ◌∙◌, ◌<◌, ℕ, true, false, sym, ap, subst, slice_get}
use Rattle.lane_locks.specs.declared.slot.Turn.TheVariants as turn
use Rattle.lane_locks.specs.declared.lines.Line.{Line}
use Rattle.lane_locks.specs.Served.{may_begin}
use Rattle.lane_locks.specs.Turns.{BeginsAt}
use Rattle.lane_locks.proofs.Turning.{published-now, of-lane-now, place-within, begin-within, to-begin, next-at, begin-left, begun-kept, begun-at}
use Rattle.lane_locks.proofs.slot.Slot.begin.Goals as goal

pub returns-then-not-may_begin-clause-begins : goal.returns-then-not-may_begin-clause-begins
returns-then-not-may_begin-clause-begins g c =
    let x = c.self.inside in
    let test : may_begin (slice_get x.lines.items c.args.place) (slice_get x.stages.items c.args.place) x.stages.items ≡ false
    = rw (c.deref.ensures.value, c.deref-2.ensures.value) at (sym c.may_begin.ensures ∙ c.if-not-may_begin.true) in
    subst (λ t. BeginsAt g.S.Segment.feeders (g.S.Segment.lines t.number) c.args.place (t.lane).lane (t.lane).lane turn.Left) c.self.view_is
    (begin-left g.S.Segment.feeders (g.S.Segment.lines x.number) (g.S.Segment.began x.number) x.lane.lane x.lines.items x.stages.items c.self.invariant.4 c.args.place test)

pub index-requires : goal.index-requires
index-requires g c =
    let x = c.self.inside in
    let test : may_begin (slice_get x.lines.items c.args.place) (slice_get x.stages.items c.args.place) x.stages.items ≡ true
    = rw (c.deref.ensures.value, c.deref-2.ensures.value) at (sym c.may_begin.ensures ∙ c.if-not-may_begin.false) in
    subst (λ (n : ℕ). c.args.place < n) (sym x.lines.ok.0)
    (begin-within g.S.Segment.feeders (g.S.Segment.lines x.number) (g.S.Segment.began x.number) x.lane.lane x.lines.items x.stages.items c.self.invariant.4 c.args.place test)

pub start-answer-requires-clause-whole : goal.start-answer-requires-clause-whole
start-answer-requires-clause-whole g c =
    let x = c.self.inside in
    let k = c.self.invariant.4 in
    let test : may_begin (slice_get x.lines.items c.args.place) (slice_get x.stages.items c.args.place) x.stages.items ≡ true
    = rw (c.deref.ensures.value, c.deref-2.ensures.value) at (sym c.may_begin.ensures ∙ c.if-not-may_begin.false) in
    let F = g.S.Segment.feeders in
    let lines = g.S.Segment.lines x.number in
    let began = g.S.Segment.began x.number in
    let l : Line = c.index.result.now in
    let found = to-begin F lines began x.lane.lane x.lines.items x.stages.items k c.args.place l test c.index.ensures in
    (k.are).whole c.args.place l found

pub start-answer-requires-clause-of_lane : goal.start-answer-requires-clause-of_lane
start-answer-requires-clause-of_lane g c =
    let x = c.self.inside in
    let k = c.self.invariant.4 in
    let test : may_begin (slice_get x.lines.items c.args.place) (slice_get x.stages.items c.args.place) x.stages.items ≡ true
    = rw (c.deref.ensures.value, c.deref-2.ensures.value) at (sym c.may_begin.ensures ∙ c.if-not-may_begin.false) in
    let F = g.S.Segment.feeders in
    let lines = g.S.Segment.lines x.number in
    let began = g.S.Segment.began x.number in
    let l : Line = c.index.result.now in
    let found = to-begin F lines began x.lane.lane x.lines.items x.stages.items k c.args.place l test c.index.ensures in
    of-lane-now F lines began x.lane.lane x.lines.items x.stages.items k c.args.place l found

pub start-answer-requires-clause-fresh : goal.start-answer-requires-clause-fresh
start-answer-requires-clause-fresh g c =
    let x = c.self.inside in
    let k = c.self.invariant.4 in
    let test : may_begin (slice_get x.lines.items c.args.place) (slice_get x.stages.items c.args.place) x.stages.items ≡ true
    = rw (c.deref.ensures.value, c.deref-2.ensures.value) at (sym c.may_begin.ensures ∙ c.if-not-may_begin.false) in
    let F = g.S.Segment.feeders in
    let lines = g.S.Segment.lines x.number in
    let began = g.S.Segment.began x.number in
    let l : Line = c.index.result.now in
    let found = to-begin F lines began x.lane.lane x.lines.items x.stages.items k c.args.place l test c.index.ensures in
    (next-at F lines began x.lane.lane x.lines.items x.stages.items k c.args.place l found test).fresh

pub start-answer-requires-clause-published : goal.start-answer-requires-clause-published
start-answer-requires-clause-published g c =
    let x = c.self.inside in
    published-now g.S.Segment.feeders (g.S.Segment.lines x.number) (g.S.Segment.began x.number) x.lane.lane x.lines.items x.stages.items c.self.invariant.4

pub note_begin-requires : goal.note_begin-requires
note_begin-requires g c =
    let x = c.self.inside in
    let k = c.self.invariant.4 in
    let test : may_begin (slice_get x.lines.items c.args.place) (slice_get x.stages.items c.args.place) x.stages.items ≡ true
    = rw (c.deref.ensures.value, c.deref-2.ensures.value) at (sym c.may_begin.ensures ∙ c.if-not-may_begin.false) in
    let F = g.S.Segment.feeders in
    let lines = g.S.Segment.lines x.number in
    let began = g.S.Segment.began x.number in
    let l : Line = c.index.result.now in
    let found = to-begin F lines began x.lane.lane x.lines.items x.stages.items k c.args.place l test c.index.ensures in
    place-within F lines began x.lane.lane x.lines.items x.stages.items k c.args.place l found

pub invariant_of-self : goal.invariant_of-self
invariant_of-self g c =
    let x = c.self.inside in
    let k = c.self.invariant.4 in
    let test : may_begin (slice_get x.lines.items c.args.place) (slice_get x.stages.items c.args.place) x.stages.items ≡ true
    = rw (c.deref.ensures.value, c.deref-2.ensures.value) at (sym c.may_begin.ensures ∙ c.if-not-may_begin.false) in
    let F = g.S.Segment.feeders in
    let lines = g.S.Segment.lines x.number in
    let began = g.S.Segment.began x.number in
    let l : Line = c.index.result.now in
    let found = to-begin F lines began x.lane.lane x.lines.items x.stages.items k c.args.place l test c.index.ensures in
    let s = c.start-answer in (
      c.self.invariant.0,
      c.self.invariant.1,
      c.self.invariant.2,
      ap g.H.Shelf.name s.ensures.shelf ∙ c.self.invariant.3,
      begun-kept F lines began x.lane.lane x.lines.items x.stages.items k c.args.place l found s.new.lane.lane s.ensures.holds test s.result s.ensures.begins c.note_begin.new.stages.items c.note_begin.ensures.stages,
    )

pub returns-clause-begins : goal.returns-clause-begins
returns-clause-begins g c =
    let x = c.self.inside in
    let k = c.self.invariant.4 in
    let test : may_begin (slice_get x.lines.items c.args.place) (slice_get x.stages.items c.args.place) x.stages.items ≡ true
    = rw (c.deref.ensures.value, c.deref-2.ensures.value) at (sym c.may_begin.ensures ∙ c.if-not-may_begin.false) in
    let F = g.S.Segment.feeders in
    let lines = g.S.Segment.lines x.number in
    let began = g.S.Segment.began x.number in
    let l : Line = c.index.result.now in
    let found = to-begin F lines began x.lane.lane x.lines.items x.stages.items k c.args.place l test c.index.ensures in
    let s = c.start-answer in
    subst (λ t. BeginsAt F (g.S.Segment.lines t.number) c.args.place (t.lane).lane s.new.lane.lane c.note_begin.result) c.self.view_is
    (begun-at F lines began x.lane.lane x.lines.items x.stages.items k c.args.place l found s.new.lane.lane s.ensures.holds test s.result s.ensures.begins c.note_begin.result c.note_begin.ensures.turn)
