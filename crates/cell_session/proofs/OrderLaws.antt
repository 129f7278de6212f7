-- One line more keeps what was said of the order of passes.
use Rattle.std.proofs.Common.{◌≡◌, ◌≢◌, ◌+◌, ℕ, List, [], ◌++◌, None, Some, inl, inr, refl, sym, ap, ◌∙◌, subst, arith, length, append_assoc, append-nil, slice_get}
use Rattle.std.proofs.lemmas.Bool.{cases_eq}
use Rattle.carriers.specs.declared.fate.Fate.{Fate}
use Rattle.lane_journals.specs.declared.event.LaneEvent.{LaneEvent}
use Rattle.lane_calls.specs.LaneValues.{LaneValue}
use Rattle.lane_calls.specs.Segments.{GaveOn}
use Rattle.lane_lives.specs.Lives.{Deed}
use Rattle.lane_lives.specs.declared.setting.Setting.{Setting}
use Rattle.lane_lives.specs.declared.spans.UpkeepSpan.{UpkeepSpan}
use Rattle.lane_promises.proofs.Before.{Grown}
use Rattle.session_cluster.specs.Cells.{Cell}
use Rattle.session_cluster.specs.Keeping.{HaveDone}
use Rattle.session_cluster.specs.Spans.{spans_of}
use Rattle.session_cluster.specs.Steps.{HasSpans, MayHaveAllPassed, IsMaintained, IsAfter}
use Rattle.session_cluster.specs.declared.asked.Asked.{Asked}
use Rattle.session_cluster.proofs.Passing.{passes_in_order}
use Rattle.session_cluster.proofs.SessionSteps.{lane_was, passed_legal, noted_after, leaves_spans}
use Rattle.session_cluster.proofs.SpanLists.{spans_own}
use Rattle.cell_session.specs.Orders.{WentInOrder, GoInOrder}
use Rattle.cell_session.proofs.UpkeepLaws.{AllGrew, grew_after, some_is, none_some}

-- a span is that of its pass still
went_on : (s : Setting) (lane : ℕ) (given now : List Fate) (J K : List LaneEvent) (span : UpkeepSpan) → WentInOrder s lane given J span → GaveOn now given → Grown K J → WentInOrder s lane now K span
went_on s lane given now J K span h more g = record {
  before = h.before;
  after = h.after;
  from = h.from;
  to = h.to;
  later = g.0 ++ h.later;
  whole = g.1 ∙ ap (λ L. g.0 ++ L) h.whole ∙ sym (append_assoc g.0 h.later h.after);
  fates = h.fates;
  others = h.others ++ more.0;
  all_given = more.1 ∙ ap (λ l. l ++ more.0) h.all_given ∙ append_assoc h.fates h.others more.0;
  carried = h.carried;
  passes = h.passes;
}

module _ (s : Setting) (plans : ℕ → List Fate) (cs : List Asked) {deeds : ℕ → List Deed} (c : Asked) (old new : Cell) (k : ℕ) (kept : HaveDone s plans cs deeds old) (is : k ≡ length cs + 1) (after : IsAfter s k c old new) (so : GoInOrder s old) where
  own_none : spans_of k old.upkeeps ≡ None
  own_none = kept.unkept k (omega (arith, is, kept.dealt))

  -- where its upkeeps are as they were
  none_noted : (spans : List UpkeepSpan) → spans_of k new.upkeeps ≡ Some spans → new.upkeeps ≡ old.upkeeps → ⊥
  none_noted spans has same = none_some (spans_of k new.upkeeps) spans (ap (spans_of k) same ∙ own_none) has

  -- the line's own
  own_gone : MayHaveAllPassed old.lanes new.lanes → HasSpans k old new → (spans : List UpkeepSpan) → spans_of k new.upkeeps ≡ Some spans → (lane : ℕ) (w : LaneValue) (span : UpkeepSpan) → slice_get new.lanes lane ≡ Some w → slice_get spans lane ≡ Some span
      → WentInOrder s lane w.given w.journal span
  own_gone passed h spans has lane w span at there =
      let own : spans_of k new.upkeeps ≡ Some h.spans = ap (spans_of k) h.noted ∙ spans_own k old.upkeeps (record { line = k; spans = h.spans }) refl own_none in
      let same : h.spans ≡ spans = some_is (sym own ∙ has) in
      let was = lane_was old.lanes new.lanes lane w passed.count at in
      let v = was.0 in
      let serving = kept.serving lane v was.1 in
      let made = (h.are).each lane v w span was.1 at (ap (λ ss. slice_get ss lane) same ∙ there) in
      let legal = passed_legal v w (passed.each lane v w was.1 at) serving.holds in
      record {
        before = v.journal;
        after = w.journal;
        from = (made.spans).from;
        to = (made.spans).to;
        later = [];
        whole = refl;
        fates = w.given;
        others = [];
        all_given = sym (append-nil w.given);
        carried = (legal.1).carried;
        passes = passes_in_order s lane v w span serving.lane_is serving.rules_are made;
      }

  by_spans : IsMaintained k old new → (spans : List UpkeepSpan) → spans_of k new.upkeeps ≡ Some spans → (lane : ℕ) (w : LaneValue) (span : UpkeepSpan) → slice_get new.lanes lane ≡ Some w → slice_get spans lane ≡ Some span
      → WentInOrder s lane w.given w.journal span
  by_spans m spans has lane w span at there = elim m.spans [
    | inl same ↦ absurd (none_noted spans has same)
    | inr h ↦ own_gone m.lanes h spans has lane w span at there
  ]

  own_line : (spans : List UpkeepSpan) → spans_of k new.upkeeps ≡ Some spans → (lane : ℕ) (w : LaneValue) (span : UpkeepSpan) → slice_get new.lanes lane ≡ Some w → slice_get spans lane ≡ Some span → WentInOrder s lane w.given w.journal span
  own_line spans has lane w span at there = elim (noted_after s c old new k after) [
    | inl own ↦ by_spans (subst (λ (x : Asked). IsAfter s k x old new) own after) spans has lane w span at there
    | inr same ↦ absurd (none_noted spans has same)
  ]

  old_line : (line : ℕ) → k ≢ line → (spans : List UpkeepSpan) → spans_of line new.upkeeps ≡ Some spans → (lane : ℕ) (w : LaneValue) (span : UpkeepSpan) → slice_get new.lanes lane ≡ Some w → slice_get spans lane ≡ Some span
      → WentInOrder s lane w.given w.journal span
  old_line line other spans has lane w span at there =
      let g = grew_after s c old new k after lane w at in
      went_on s lane (g.0).given w.given (g.0).journal w.journal span
      (so line spans (sym (leaves_spans s c old new k after line other) ∙ has) lane g.0 span g.1.0 there) (g.1.1).fates (g.1.1).journal

  pub gone_more : GoInOrder s new
  gone_more line spans has lane w span at there = elim (cases_eq k line) [
    | inl here ↦ own_line spans (subst (λ n. spans_of n new.upkeeps ≡ Some spans) (sym here) has) lane w span at there
    | inr other ↦ old_line line other spans has lane w span at there
  ]

-- where no line asked for upkeep
pub none_gone : (s : Setting) (c : Cell) → c.upkeeps ≡ [] → GoInOrder s c
none_gone s c none line spans has lane v span at there = absurd (none_some (spans_of line c.upkeeps) spans (ap (spans_of line) none) has)

-- what was said stays where no span came, and the lanes grew
pub gone_on : (s : Setting) (old new : Cell) → new.upkeeps ≡ old.upkeeps → AllGrew old new → GoInOrder s old → GoInOrder s new
gone_on s old new same grew so line spans has lane w span at there =
    let g = grew lane w at in
    went_on s lane (g.0).given w.given (g.0).journal w.journal span (so line spans (sym (ap (spans_of line) same) ∙ has) lane g.0 span g.1.0 there) (g.1.1).fates (g.1.1).journal
