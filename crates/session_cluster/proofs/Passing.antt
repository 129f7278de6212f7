-- Upkeep in one lane after the other.
use Rattle.std.proofs.Common.{◌≡◌, ◌⊎◌, ◌<◌, ◌≤◌, ◌+◌, ℕ, zero, suc, List, [], ◌∷◌, ◌++◌, None, Some, inl, inr, refl, sym, ap, ◌∙◌, subst, arith, length, length-append, length-set, set, slice_get, slice_index_or, Result, OnOk}
use Rattle.value_lists.specs.declared.no_memory.NoMemory.{NoMemory}
use Rattle.lane_calls.specs.LaneValues.{LaneValue, IsLaneValue}
use Rattle.bucket_ids.specs.Buckets.{Low}
use Rattle.distributor_part.specs.declared.rules.Rules.{Rules}
use Rattle.lane_core.specs.Passes.{MakesPass, IsPassed}
use Rattle.lane_lives.specs.Serving.{bucket_in}
use Rattle.lane_lives.specs.declared.setting.Setting.{Setting}
use Rattle.lane_lives.specs.Upkeep.{MayBeUpkept}
use Rattle.lane_lives.specs.declared.spans.UpkeepSpan.{UpkeepSpan}
use Rattle.std.proofs.lemmas.List.{length-map}
use Rattle.session_cluster.specs.Cells.{Cell, ShownLane, own_lane, lanes_in}
use Rattle.session_cluster.specs.Output.{upkeep_answer}
use Rattle.session_cluster.specs.Spans.{spans_of, PassesInOrder}
use Rattle.session_cluster.specs.Steps.{MayHavePassed, MayHaveAllPassed, AreSpans, HasSpans, IsMaintained}
use Rattle.session_cluster.proofs.Elements.{element_set}
use Rattle.session_cluster.proofs.ShelvedLanes.{lanes_set}
use Rattle.session_cluster.proofs.SpanLists.{spans_own}

-- so many lanes made their passes, and the others are as they were
pub record PassedSoFar (i : ℕ) (vs ws : List LaneValue) (spans : List UpkeepSpan) : Type 0 where
  pub lanes_count : length ws ≡ length vs
  pub spans_count : length spans ≡ i
  pub each : (lane : ℕ) (v w : LaneValue) → slice_get vs lane ≡ Some v → slice_get ws lane ≡ Some w → MayHavePassed v w
  pub done : (lane : ℕ) (v w : LaneValue) (span : UpkeepSpan) → slice_get vs lane ≡ Some v → slice_get ws lane ≡ Some w → slice_get spans lane ≡ Some span → IsPassed span v w
  pub rest : (lane : ℕ) → i ≤ lane → slice_get ws lane ≡ slice_get vs lane

some_is : {X : Type 0} {x y : X} → Some x ≡ Some y → x ≡ y
some_is e = cc

no_item : {X : Type 0} (lane : ℕ) (x : X) → slice_get [] lane ≡ Some x → ⊥
no_item zero x h = cc h
no_item (suc lane) x h = cc h

pub none_passed : (vs : List LaneValue) (spans : List UpkeepSpan) → spans ≡ [] → PassedSoFar 0 vs vs spans
none_passed vs spans none = record {
  lanes_count = refl;
  spans_count = ap length none;
  each = λ lane v w was is. inl (some_is (sym is ∙ was));
  done = λ lane v w span was is at. absurd (no_item lane span (subst (λ ss. slice_get ss lane ≡ Some span) none at));
  rest = λ lane past. refl;
}

-- the next lane is as it was
item_there : (ws : List LaneValue) (i : ℕ) (x : LaneValue) → i < length ws → x ≡ slice_index_or ws i x → slice_get ws i ≡ Some x
item_there [] i x h is = absurd (omega (arith, h))
item_there (y ∷ ws) zero x h is = ap Some (sym is)
item_there (y ∷ ws) (suc i) x h is = item_there ws i x (omega (arith, h)) is

pub next_there : (i : ℕ) (vs ws : List LaneValue) (spans : List UpkeepSpan) (x : LaneValue) → PassedSoFar i vs ws spans → i < length vs → x ≡ slice_index_or ws i x → slice_get vs i ≡ Some x
next_there i vs ws spans x so below is = sym (so.rest i (omega arith)) ∙ item_there ws i x (omega (arith, below, so.lanes_count)) is

may_pass : (v w : LaneValue) → MayBeUpkept v w → IsLaneValue w → MayHavePassed v w
may_pass v w (inl same) holds = inl same
may_pass v w (inr m) holds = inr (m, holds)

module _ (i : ℕ) (vs ws : List LaneValue) (spans : List UpkeepSpan) (x y : LaneValue) (so : PassedSoFar i vs ws spans) (was : slice_get vs i ≡ Some x) where
  each_with : MayHavePassed x y → (lane : ℕ) (v w : LaneValue) → slice_get vs lane ≡ Some v → slice_get (set ws i y) lane ≡ Some w → MayHavePassed v w
  each_with may lane v w before after = elim (element_set ws i lane y w after) [
    | inl here ↦ subst (λ (z : LaneValue). MayHavePassed z w) (some_is (sym was ∙ ap (slice_get vs) here.0 ∙ before)) (subst (MayHavePassed x) here.1 may)
    | inr other ↦ so.each lane v w before other.1
  ]

  -- where its pass was cut
  pub passed_cut : MayBeUpkept x y → IsLaneValue y → MayHaveAllPassed vs (set ws i y)
  passed_cut may holds = record { count = length-set ws i y ∙ so.lanes_count; each = each_with (may_pass x y may holds) }

  last_of : (ss : List UpkeepSpan) (span : UpkeepSpan) (lane : ℕ) (t : UpkeepSpan) → slice_get (ss ++ span ∷ []) lane ≡ Some t → ((lane < length ss) × (slice_get ss lane ≡ Some t)) ⊎ ((lane ≡ length ss) × (span ≡ t))
  last_of [] span zero t h = inr (refl, some_is h)
  last_of [] span (suc lane) t h = absurd (no_item lane t h)
  last_of (s ∷ ss) span zero t h = inl (omega arith, h)
  last_of (s ∷ ss) span (suc lane) t h = elim (last_of ss span lane t h) [
    | inl old ↦ inl (omega (arith, old.0), old.1)
    | inr new ↦ inr (omega (arith, new.0), new.1)
  ]

  done_with : (span : UpkeepSpan) → IsPassed span x y → (lane : ℕ) (v w : LaneValue) (t : UpkeepSpan) → slice_get vs lane ≡ Some v → slice_get (set ws i y) lane ≡ Some w → slice_get (spans ++ span ∷ []) lane ≡ Some t → IsPassed t v w
  done_with span made lane v w t before after at = elim (last_of spans span lane t at) [
    | inl old ↦ elim (element_set ws i lane y w after) [
      | inl here ↦ absurd (omega (arith, old.0, here.0, so.spans_count))
      | inr other ↦ so.done lane v w t before other.1 old.1
    ]
    | inr new ↦ elim (element_set ws i lane y w after) [
      | inl here ↦ subst (λ (z : LaneValue). IsPassed t z w) (some_is (sym was ∙ ap (slice_get vs) here.0 ∙ before)) (subst (IsPassed t x) here.1 (subst (λ (u : UpkeepSpan). IsPassed u x y) new.1 made))
      | inr other ↦ absurd (other.0 (omega (arith, new.0, so.spans_count)))
    ]
  ]

  rest_with : (lane : ℕ) → i + 1 ≤ lane → slice_get (set ws i y) lane ≡ slice_get vs lane
  rest_with lane past = other_there ws i lane (omega (arith, past)) ∙ so.rest lane (omega (arith, past))
    where
      other_there : (us : List LaneValue) (i lane : ℕ) → i < lane → slice_get (set us i y) lane ≡ slice_get us lane
      other_there [] i lane h = refl
      other_there (u ∷ us) zero zero h = absurd (omega (arith, h))
      other_there (u ∷ us) zero (suc lane) h = refl
      other_there (u ∷ us) (suc i) zero h = absurd (omega (arith, h))
      other_there (u ∷ us) (suc i) (suc lane) h = other_there us i lane (omega (arith, h))

  -- with its span
  pub passed_more : (span : UpkeepSpan) (noted : List UpkeepSpan) → IsPassed span x y → IsLaneValue y → noted ≡ spans ++ span ∷ [] → PassedSoFar (i + 1) vs (set ws i y) noted
  passed_more span noted made holds now = subst (PassedSoFar (i + 1) vs (set ws i y)) (sym now) (record {
    lanes_count = length-set ws i y ∙ so.lanes_count;
    spans_count = omega (arith, length-append spans (span ∷ []), so.spans_count);
    each = each_with (inr ((made.spans).pass, holds));
    done = done_with span made;
    rest = rest_with;
  })

-- of lanes with their shelves
pub passed-more-in : (i : ℕ) (vs : List LaneValue) (xs : List ShownLane) (spans : List UpkeepSpan) (x : LaneValue) (y : ShownLane) → PassedSoFar i vs (lanes_in xs) spans → slice_get vs i ≡ Some x
    → (span : UpkeepSpan) (noted : List UpkeepSpan) → IsPassed span x y.lane → IsLaneValue y.lane → noted ≡ spans ++ span ∷ [] → PassedSoFar (i + 1) vs (lanes_in (set xs i y)) noted
passed-more-in i vs xs spans x y so was span noted made holds now =
    subst (λ (ws : List LaneValue). PassedSoFar (i + 1) vs ws noted) (sym (lanes_set xs i y)) (passed_more i vs (lanes_in xs) spans x y.lane so was span noted made holds now)

-- ---- all lanes

pub all_passed : (i : ℕ) (vs ws : List LaneValue) (spans : List UpkeepSpan) → PassedSoFar i vs ws spans → MayHaveAllPassed vs ws
all_passed i vs ws spans so = record { count = so.lanes_count; each = so.each }

pub all_spans : (i : ℕ) (vs ws : List LaneValue) (spans : List UpkeepSpan) → PassedSoFar i vs ws spans → i ≡ length vs → AreSpans vs ws spans
all_spans i vs ws spans so is = record { count = so.spans_count ∙ is; each = so.done }

pub all_spans_in : (i : ℕ) (xs ys : List ShownLane) (spans : List UpkeepSpan) → PassedSoFar i (lanes_in xs) (lanes_in ys) spans → i ≡ length xs → AreSpans (lanes_in xs) (lanes_in ys) spans
all_spans_in i xs ys spans so is = all_spans i (lanes_in xs) (lanes_in ys) spans so (is ∙ sym (length-map xs own_lane))

-- ---- the cluster

-- where want of memory cut it
pub cut_is : (line : ℕ) (old new : Cell) → new ≡ record old { lanes = new.lanes; dealt = line } → MayHaveAllPassed old.lanes new.lanes → IsMaintained line old new
cut_is line old new now passed =
    let same : new.upkeeps ≡ old.upkeeps = ap (λ (x : Cell). x.upkeeps) now in
    record { lanes = passed; now = now ∙ (λ i. record old { lanes = new.lanes; dealt = line; upkeeps = sym same i }); spans = inl same }

-- where its spans were noted
module _ (line : ℕ) (old mid new : Cell) (spans : List UpkeepSpan) (now : mid ≡ record old { lanes = mid.lanes; dealt = line }) (passed : MayHaveAllPassed old.lanes mid.lanes) (are : AreSpans old.lanes mid.lanes spans)
    (after : new ≡ record mid { upkeeps = mid.upkeeps ++ record { line = line; spans = spans } ∷ [] }) where
  lanes_same : mid.lanes ≡ new.lanes
  lanes_same = sym (ap (λ (x : Cell). x.lanes) after)

  upkeeps_are : new.upkeeps ≡ old.upkeeps ++ record { line = line; spans = spans } ∷ []
  upkeeps_are = ap (λ (x : Cell). x.upkeeps) after ∙ ap (λ (x : Cell). x.upkeeps ++ record { line = line; spans = spans } ∷ []) now

  noted : HasSpans line old new
  noted = record { spans = spans; are = subst (λ us. AreSpans old.lanes us spans) lanes_same are; noted = upkeeps_are }

  pub noted_is : IsMaintained line old new × HasSpans line old new
  noted_is = (
    record {
      lanes = subst (MayHaveAllPassed old.lanes) lanes_same passed;
      now = whole;
      spans = inr noted;
    },
    noted,
  )
    where
      whole : new ≡ record old { lanes = new.lanes; dealt = line; upkeeps = new.upkeeps }
      whole = after ∙ (λ i. record (now i) { upkeeps = sym (ap (λ (x : Cell). x.upkeeps) after) i }) ∙ (λ i. record old { lanes = lanes_same i; dealt = line; upkeeps = new.upkeeps })

  pub noted_answer : spans_of line old.upkeeps ≡ None → upkeep_answer (Some spans) ≡ upkeep_answer (spans_of line new.upkeeps)
  noted_answer none = ap upkeep_answer (sym (ap (spans_of line) upkeeps_are ∙ spans_own line old.upkeeps (record { line = line; spans = spans }) refl none))

-- as many lanes as before
pub passed_many : (inside vs ws : List ShownLane) (n : ℕ) → n ≡ length inside → vs ≡ inside → MayHaveAllPassed (lanes_in vs) (lanes_in ws) → length ws ≡ n
passed_many inside vs ws n count same passed = sym (length-map ws own_lane) ∙ passed.count ∙ length-map vs own_lane ∙ ap length same ∙ sym count

pub lanes_passed : (old inside : Cell) (vs ws shown : List LaneValue) → inside ≡ old → vs ≡ inside.lanes → MayHaveAllPassed vs ws → shown ≡ ws → MayHaveAllPassed old.lanes shown
lanes_passed old inside vs ws shown is same passed shows =
    subst (λ us. MayHaveAllPassed us shown) (same ∙ ap (λ (x : Cell). x.lanes) is) (subst (MayHaveAllPassed vs) (sym shows) passed)

pub lanes_spans : (r : Result (Unit {0}) NoMemory) (old inside : Cell) (vs ws shown : List LaneValue) (spans : List UpkeepSpan) → inside ≡ old → vs ≡ inside.lanes → OnOk r (AreSpans vs ws spans) → shown ≡ ws → OnOk r (AreSpans old.lanes shown spans)
lanes_spans r old inside vs ws shown spans is same are shows =
    subst (λ us. OnOk r (AreSpans us shown spans)) (same ∙ ap (λ (x : Cell). x.lanes) is) (subst (λ us. OnOk r (AreSpans vs us spans)) (sym shows) are)

-- few lanes have few spans
pub few_spans : (vs ws : List LaneValue) (spans shown : List UpkeepSpan) → AreSpans vs ws spans → shown ≡ spans → length vs ≤ 64 → length shown ≤ 64
few_spans vs ws spans shown are same few = omega (arith, ap length same, are.count, few)

-- the pass of a lane that is set up as the session has it
pub passes_in_order : (s : Setting) (lane : ℕ) (v w : LaneValue) (span : UpkeepSpan) → v.lane ≡ bucket_in s lane → v.rules ≡ s.rules → IsPassed span v w → PassesInOrder s lane v.journal w.journal w.given
passes_in_order s lane v w span bucket rules made =
    subst (λ (r : Rules). MakesPass (bucket_in s lane) r v.journal w.journal w.given) rules
    (subst (λ (b : Low). MakesPass b v.rules v.journal w.journal w.given) bucket made.passes)
