use Rattle.std.proofs.Common.{◌≡◌, ◌∙◌, ◌<◌, ℕ, false, Some, sym, ap, subst, slice_get}
use Rattle.lane_locks.specs.declared.slot.Turn.TheVariants as turn
use Rattle.lane_locks.specs.declared.lines.Line.{Line}
use Rattle.lane_locks.specs.declared.lines.Stage.TheVariants.{Ending}
use Rattle.lane_locks.specs.Served.{is_ending}
use Rattle.lane_locks.specs.Turns.{ClosesAt}
use Rattle.lane_locks.proofs.Turning.{ending-is, stage-within, with-stage, place-within, close-left, closed-kept, closed-at}
use Rattle.lane_locks.proofs.slot.Slot.close.Goals as goal

pub returns-then-not-is_ending-clause-closes : goal.returns-then-not-is_ending-clause-closes
returns-then-not-is_ending-clause-closes g c =
    let x = c.self.inside in
    let test : is_ending (slice_get x.stages.items c.args.place) ≡ false = rw c.deref.ensures.value at (sym c.is_ending.ensures ∙ c.if-not-is_ending.true) in
    subst (λ t. ClosesAt (g.S.Segment.lines t.number) c.args.place (t.lane).lane (t.lane).lane turn.Left) c.self.view_is
    (close-left g.S.Segment.feeders (g.S.Segment.lines x.number) (g.S.Segment.began x.number) x.lane.lane x.lines.items x.stages.items c.self.invariant.4 c.args.place test)

pub index-requires : goal.index-requires
index-requires g c =
    let x = c.self.inside in
    let at : slice_get x.stages.items c.args.place ≡ Some Ending = ending-is (slice_get x.stages.items c.args.place) (rw c.deref.ensures.value at (sym c.is_ending.ensures ∙ c.if-not-is_ending.false)) in
    subst (λ (n : ℕ). c.args.place < n) (sym x.lines.ok.0)
    (stage-within g.S.Segment.feeders (g.S.Segment.lines x.number) (g.S.Segment.began x.number) x.lane.lane x.lines.items x.stages.items c.self.invariant.4 c.args.place Ending at)

pub end-outcome-requires : goal.end-outcome-requires
end-outcome-requires g c =
    let x = c.self.inside in
    let k = c.self.invariant.4 in
    let at : slice_get x.stages.items c.args.place ≡ Some Ending = ending-is (slice_get x.stages.items c.args.place) (rw c.deref.ensures.value at (sym c.is_ending.ensures ∙ c.if-not-is_ending.false)) in
    let F = g.S.Segment.feeders in
    let lines = g.S.Segment.lines x.number in
    let began = g.S.Segment.began x.number in
    let l : Line = c.index.result.now in
    let found = with-stage F lines began x.lane.lane x.lines.items x.stages.items k c.args.place l Ending at c.index.ensures in
    ((k.served).stages_are).each c.args.place l Ending found at

pub note_end-requires : goal.note_end-requires
note_end-requires g c =
    let x = c.self.inside in
    let k = c.self.invariant.4 in
    let at : slice_get x.stages.items c.args.place ≡ Some Ending = ending-is (slice_get x.stages.items c.args.place) (rw c.deref.ensures.value at (sym c.is_ending.ensures ∙ c.if-not-is_ending.false)) in
    let F = g.S.Segment.feeders in
    let lines = g.S.Segment.lines x.number in
    let began = g.S.Segment.began x.number in
    let l : Line = c.index.result.now in
    let found = with-stage F lines began x.lane.lane x.lines.items x.stages.items k c.args.place l Ending at c.index.ensures in
    place-within F lines began x.lane.lane x.lines.items x.stages.items k c.args.place l found

pub invariant_of-self : goal.invariant_of-self
invariant_of-self g c =
    let x = c.self.inside in
    let k = c.self.invariant.4 in
    let at : slice_get x.stages.items c.args.place ≡ Some Ending = ending-is (slice_get x.stages.items c.args.place) (rw c.deref.ensures.value at (sym c.is_ending.ensures ∙ c.if-not-is_ending.false)) in
    let F = g.S.Segment.feeders in
    let lines = g.S.Segment.lines x.number in
    let began = g.S.Segment.began x.number in
    let l : Line = c.index.result.now in
    let found = with-stage F lines began x.lane.lane x.lines.items x.stages.items k c.args.place l Ending at c.index.ensures in
    let s = c.end-outcome in (
      c.self.invariant.0,
      c.self.invariant.1,
      c.self.invariant.2,
      ap g.H.Shelf.name s.ensures.shelf ∙ c.self.invariant.3,
      closed-kept F lines began x.lane.lane x.lines.items x.stages.items k c.args.place l found s.new.lane.lane s.ensures.holds at s.result s.ensures.closes c.note_end.new.stages.items c.note_end.ensures,
    )

pub returns-clause-closes : goal.returns-clause-closes
returns-clause-closes g c =
    let x = c.self.inside in
    let k = c.self.invariant.4 in
    let at : slice_get x.stages.items c.args.place ≡ Some Ending = ending-is (slice_get x.stages.items c.args.place) (rw c.deref.ensures.value at (sym c.is_ending.ensures ∙ c.if-not-is_ending.false)) in
    let F = g.S.Segment.feeders in
    let lines = g.S.Segment.lines x.number in
    let began = g.S.Segment.began x.number in
    let l : Line = c.index.result.now in
    let found = with-stage F lines began x.lane.lane x.lines.items x.stages.items k c.args.place l Ending at c.index.ensures in
    let s = c.end-outcome in
    subst (λ t. ClosesAt (g.S.Segment.lines t.number) c.args.place (t.lane).lane s.new.lane.lane turn.Over) c.self.view_is
    (closed-at F lines began x.lane.lane x.lines.items x.stages.items k c.args.place l found s.new.lane.lane s.ensures.holds s.result s.ensures.closes)
