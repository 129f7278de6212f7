-- A segment, or a line that ends one, goes on from what was there.
use Rattle.std.proofs.Common.{◌≡◌, ◌==◌, ◌⊎◌, ℕ, zero, suc, ◌^◌, ◌<◌, ◌≤◌, Bool, true, false, List, [], ◌∷◌, ◌++◌, Option, None, Some, inl, inr, refl, sym, ap, ◌∙◌, subst, arith, length, slice_get, if◌then◌else◌}
use Rattle.std.specs.Option.{IsSome}
use Rattle.std.proofs.lemmas.Bool.{cases_lt, false≢true}
use Rattle.std.proofs.lemmas.Bool.Decides.{nat_tests}
use Rattle.carriers.specs.declared.fate.Fate.{Fate}
use Rattle.lane_changes.specs.Changes.{changes_of}
use Rattle.messages.specs.declared.operation.Operation.{Operation}
use Rattle.lane_calls.specs.LaneValues.{LaneValue}
use Rattle.lane_calls.specs.Lines.{FeedLine, Lines}
use Rattle.lane_calls.specs.Readings.{outcome_in}
use Rattle.lane_calls.specs.Segments.{IsAmong, IsSegment}
use Rattle.lane_calls.proofs.Calling.{segment-grows, segment-kept}
use Rattle.lane_calls.proofs.Growing.{grows-later}
use Rattle.lane_lives.specs.declared.setting.Setting.{Setting}
use Rattle.lane_promises.proofs.Before.{Grown}
use Rattle.query_text.specs.Grammar.{Said}
use Rattle.reports.specs.declared.answer.Answer.TheVariants as answer
use Rattle.session_cluster.specs.Cells.{Cell, journals_of}
use Rattle.session_cluster.specs.Lanes.{Journal, lane_of_id, journal_in}
use Rattle.session_cluster.specs.Output.{plan_answer}
use Rattle.session_cluster.specs.Searches.{fronts_of, front_now, fronts_now}
use Rattle.session_cluster.specs.Spans.{spans_of}
use Rattle.session_cluster.specs.Steps.{IsAfter}
use Rattle.session_cluster.specs.declared.asked.Asked.{Asked}
use Rattle.session_cluster.specs.declared.asked.Asked.TheVariants as command
use Rattle.session_cluster.specs.declared.searching.LineFronts.{LineFronts}
use Rattle.session_cluster.proofs.KeptLanes.{lane_there}
use Rattle.session_cluster.proofs.LaneLists.{lane_small, journal_at}
use Rattle.session_cluster.proofs.Moving.{moves}
use Rattle.session_cluster.proofs.SessionSteps.{lane_was, leaves_spans, leaves_fronts, read_after}
use Rattle.session_segments.specs.Fed.{front_of, fronts_from, AreFedIn, AreDealt, IsFed, HaveFed}
use Rattle.session_segments.specs.FedDeeds.{with_feed, with_fed, fed_lines}
use Rattle.session_segments.specs.Parts.{cuts, Part, asked_in}
use Rattle.cell_session.proofs.FedOutput.{GoesOn, IsAnswered, AreAnswered, ReadWithin, within_on}
use Rattle.cell_session.proofs.ReadLaws.{mapped_at}
use Rattle.cell_session.proofs.UpkeepLaws.{grew_after}

-- ---- fronts behind others

-- what comes behind is none of a line's
fronts_before : (line : ℕ) (fs gs : List LineFronts) → fronts_of line gs ≡ None → fronts_of line (fs ++ gs) ≡ fronts_of line fs
fronts_before line [] gs none = none
fronts_before line (f ∷ fs) gs none = ap (λ o. if f.line == line then Some f.fronts else o) (fronts_before line fs gs none)

other_line : (line n : ℕ) → line < n → (n == line) ≡ false
other_line line n less = grind (arith, nat_tests)

-- a line before the first one has none
front_early : (line n : ℕ) (c : Asked) (g : List ℕ) (fs : List LineFronts) → line < n → fronts_of line fs ≡ None → fronts_of line (front_of n c g ++ fs) ≡ None
front_early line n (command.Search query) g fs less none = ap (λ t. if t then Some g else fronts_of line fs) (other_line line n less) ∙ none
front_early line n command.Blank g fs less none = none
front_early line n command.TooLong g fs less none = none
front_early line n command.Barrier g fs less none = none
front_early line n (command.Bad why) g fs less none = none
front_early line n (command.Feed op via) g fs less none = none
front_early line n (command.State state deaf) g fs less none = none
front_early line n (command.BadState offset) g fs less none = none
front_early line n (command.Stop node) g fs less none = none
front_early line n (command.Start node) g fs less none = none
front_early line n (command.Net lane fates) g fs less none = none
front_early line n command.Maintain g fs less none = none
front_early line n (command.BadQuery offset) g fs less none = none

fronts_early : (line first : ℕ) (cs : List Asked) (g : List ℕ) → line < first → fronts_of line (fronts_from first cs g) ≡ None
fronts_early line first [] g less = refl
fronts_early line first (c ∷ cs) g less = front_early line first c g (fronts_from (suc first) cs g) less (fronts_early line (suc first) cs g (omega (arith, less)))

-- what is found stands in the first part, or in the second
pub fronts_either : (line : ℕ) (fs gs : List LineFronts) (g : List ℕ) → fronts_of line (fs ++ gs) ≡ Some g → (fronts_of line fs ≡ Some g) ⊎ (fronts_of line gs ≡ Some g)
fronts_either line [] gs g has = inr has
fronts_either line (f ∷ fs) gs g has = by_test (f.line == line) has (fronts_either line fs gs g)
  where
    by_test : (t : Bool) → (if t then Some f.fronts else fronts_of line (fs ++ gs)) ≡ Some g → (fronts_of line (fs ++ gs) ≡ Some g → (fronts_of line fs ≡ Some g) ⊎ (fronts_of line gs ≡ Some g))
        → ((if t then Some f.fronts else fronts_of line fs) ≡ Some g) ⊎ (fronts_of line gs ≡ Some g)
    by_test true has rest = inl has
    by_test false has rest = rest has

same_item : {A : Type 0} {x y : A} → Some x ≡ Some y → x ≡ y
same_item e = cc

-- each search of a segment read as far
front_is : (line n : ℕ) (c : Asked) (g h : List ℕ) (fs : List LineFronts) → (fronts_of line fs ≡ Some h → h ≡ g) → fronts_of line (front_of n c g ++ fs) ≡ Some h → h ≡ g
front_is line n (command.Search query) g h fs rest has = by_test (n == line) has
  where
    by_test : (t : Bool) → (if t then Some g else fronts_of line fs) ≡ Some h → h ≡ g
    by_test true has = sym (same_item has)
    by_test false has = rest has
front_is line n command.Blank g h fs rest has = rest has
front_is line n command.TooLong g h fs rest has = rest has
front_is line n command.Barrier g h fs rest has = rest has
front_is line n (command.Bad why) g h fs rest has = rest has
front_is line n (command.Feed op via) g h fs rest has = rest has
front_is line n (command.State state deaf) g h fs rest has = rest has
front_is line n (command.BadState offset) g h fs rest has = rest has
front_is line n (command.Stop node) g h fs rest has = rest has
front_is line n (command.Start node) g h fs rest has = rest has
front_is line n (command.Net lane fates) g h fs rest has = rest has
front_is line n command.Maintain g h fs rest has = rest has
front_is line n (command.BadQuery offset) g h fs rest has = rest has

pub fronts_are : (line first : ℕ) (cs : List Asked) (g h : List ℕ) → fronts_of line (fronts_from first cs g) ≡ Some h → h ≡ g
fronts_are line first [] g h has = cc has
fronts_are line first (c ∷ cs) g h has = front_is line first c g h (fronts_from (suc first) cs g) (fronts_are line (suc first) cs g h) has

-- ---- a segment

none_past : (vs : List LaneValue) (lane : ℕ) → length vs ≤ lane → slice_get vs lane ≡ None
none_past [] zero past = refl
none_past [] (suc lane) past = refl
none_past (v ∷ vs) zero past = absurd (omega (arith, past))
none_past (v ∷ vs) (suc lane) past = none_past vs lane (omega (arith, past))

pub segment_grown : (feeders : ℕ) (lines : Lines) (v w : LaneValue) → IsSegment feeders lines v w → Grown w.journal v.journal
segment_grown feeders lines v w segment =
    let later = grows-later feeders lines v.lane v.rules v.journal w.journal (segment-grows feeders lines v w segment) in
    (later.added, later.is)

module _ (s : Setting) (feeders line : ℕ) (cs : List Asked) (left : ℕ → Lines) (old new : Cell) (fed : AreFedIn s feeders line cs left old new) where
  -- the lane from which one grew
  grew_from : (lane : ℕ) (w : LaneValue) → slice_get new.lanes lane ≡ Some w → (v : LaneValue) × ((slice_get old.lanes lane ≡ Some v) × IsSegment feeders (fed_lines s lane line cs []) v w)
  grew_from lane w at =
      let was = lane_was old.lanes new.lanes lane w fed.count at in
      (was.0, (was.1, (fed.each lane was.0 w was.1 at).segment))

  fed_each : (lane : ℕ) (w : LaneValue) → slice_get new.lanes lane ≡ Some w → (v : LaneValue) × ((slice_get old.lanes lane ≡ Some v) × Grown w.journal v.journal)
  fed_each lane w at = let from = grew_from lane w at in (from.0, (from.1.0, segment_grown feeders _ from.0 w from.1.1))

  plan_is : (v w : LaneValue) → w.takes_plans ≡ v.takes_plans → plan_answer (Some w) ≡ plan_answer (Some v)
  plan_is v w takes = ap (λ t. Some (answer.Planned t)) takes

  fed_plans : (lane : ℕ) → plan_answer (slice_get new.lanes lane) ≡ plan_answer (slice_get old.lanes lane)
  fed_plans lane = elim (cases_lt lane (length new.lanes)) [
    | inl there ↦
        let w = lane_there new.lanes lane there in
        let from = grew_from lane w.0 w.1 in
        ap plan_answer w.1 ∙ plan_is from.0 w.0 (segment-kept feeders _ from.0 w.0 from.1.1).2 ∙ sym (ap plan_answer from.1.0)
    | inr past ↦
        ap plan_answer (none_past new.lanes lane (omega (arith, past)) ∙ sym (none_past old.lanes lane (omega (arith, past, fed.count))))
  ]

  pub fed_goes : (searched : List Asked) → AreDealt line searched cs old new → (n : ℕ) → n < line → GoesOn n old new
  fed_goes searched now n less = record {
    count = fed.count;
    each = fed_each;
    plans = fed_plans;
    spans = λ k low. ap (λ (c : Cell). spans_of k c.upkeeps) now;
    fronts = λ k low.
        ap (λ (c : Cell). fronts_of k c.fronts) now
        ∙ fronts_before k old.fronts (fronts_from line searched (fronts_now new.lanes)) (fronts_early k line searched (fronts_now new.lanes) (omega (arith, low, less)));
  }

  pub fed_within : (searched : List Asked) → AreDealt line searched cs old new → ReadWithin old → ReadWithin new
  fed_within searched now within k gs has lane w g at there =
      elim (fronts_either k old.fronts (fronts_from line searched (fronts_now new.lanes)) gs (sym (ap (λ (c : Cell). fronts_of k c.fronts) now) ∙ has)) [
        | inl before ↦
            let from = fed_each lane w at in
            within_on (from.0).journal w.journal g from.1.1 (within k gs before lane from.0 g from.1.0 there)
        | inr own ↦ at_end (mapped_at front_now new.lanes lane w g at (subst (λ xs. slice_get xs lane ≡ Some g) (fronts_are k line searched (fronts_now new.lanes) gs own) there))
      ]
    where
      at_end : g ≡ front_now w → g ≤ length (changes_of w.journal)
      at_end is = omega (arith, is)

-- ---- the lines of a segment have their outcomes

among_front : (lines : Lines) (x : FeedLine) → IsAmong (x ∷ lines) x
among_front lines x = (0, refl)

among_behind : (lines : Lines) (x y : FeedLine) → IsAmong lines y → IsAmong (x ∷ lines) y
among_behind lines x y among = (suc among.0, among.1)

among_feed : (s : Setting) (lane line : ℕ) (op : Operation) (via : Option ℕ) (lines : Lines) (x : FeedLine) → IsAmong lines x → IsAmong (with_feed s lane line op via lines) x
among_feed s lane line op via lines x among = by_test (lane_of_id s.bits op.id == lane)
  where
    by_test : (t : Bool) → IsAmong (if t then record { number = line; operation = op; via = via } ∷ lines else lines) x
    by_test true = among_behind lines _ x among
    by_test false = among

among_with : (s : Setting) (lane line : ℕ) (c : Asked) (lines : Lines) (x : FeedLine) → IsAmong lines x → IsAmong (with_fed s lane line c lines) x
among_with s lane line (command.Feed op via) lines x among = among_feed s lane line op via lines x among
among_with s lane line command.Blank lines x among = among
among_with s lane line command.TooLong lines x among = among
among_with s lane line command.Barrier lines x among = among
among_with s lane line (command.Bad why) lines x among = among
among_with s lane line (command.State state deaf) lines x among = among
among_with s lane line (command.BadState offset) lines x among = among
among_with s lane line (command.Stop node) lines x among = among
among_with s lane line (command.Start node) lines x among = among
among_with s lane line (command.Net at fates) lines x among = among
among_with s lane line command.Maintain lines x among = among
among_with s lane line (command.Search query) lines x among = among
among_with s lane line (command.BadQuery offset) lines x among = among

among_fed : (s : Setting) (lane line : ℕ) (cs : List Asked) (lines : Lines) (x : FeedLine) → IsAmong lines x → IsAmong (fed_lines s lane line cs lines) x
among_fed s lane line [] lines x among = among
among_fed s lane line (c ∷ cs) lines x among = among_fed s lane (suc line) cs (with_fed s lane line c lines) x (among_with s lane line c lines x among)

own_lane : (n : ℕ) → (n == n) ≡ true
own_lane n = grind (arith, nat_tests)

own_feed : (s : Setting) (line : ℕ) (op : Operation) (via : Option ℕ) (lines : Lines) → IsAmong (with_feed s (lane_of_id s.bits op.id) line op via lines) (record { number = line; operation = op; via = via })
own_feed s line op via lines =
    let x : FeedLine = record { number = line; operation = op; via = via } in
    subst (λ t. IsAmong (if t then x ∷ lines else lines) x) (sym (own_lane (lane_of_id s.bits op.id))) (among_front lines x)

-- each line of them that stands in a lane has its outcome there
abbrev HaveOutcomesIn : Setting → ℕ → List Asked → (ℕ → Lines) → List Journal → Type 0
HaveOutcomesIn s line cs lines Js = (lane : ℕ) → lane < 2 ^ s.bits → (x : FeedLine) → IsAmong (fed_lines s lane line cs (lines lane)) x → IsSome (outcome_in x.number (journal_in lane Js))

answered_one : (s : Setting) (line : ℕ) (c : Asked) (cs : List Asked) (lines : ℕ → Lines) (Js : List Journal) → HaveOutcomesIn s line (c ∷ cs) lines Js → IsAnswered s line c Js
answered_one s line (command.Feed op via) cs lines Js have =
    let lane = lane_of_id s.bits op.id in
    have lane (lane_small s.bits op.id) (record { number = line; operation = op; via = via }) (among_fed s lane (suc line) cs (with_feed s lane line op via (lines lane)) _ (own_feed s line op via (lines lane)))
answered_one s line command.Blank cs lines Js have = tt
answered_one s line command.TooLong cs lines Js have = tt
answered_one s line command.Barrier cs lines Js have = tt
answered_one s line (command.Bad why) cs lines Js have = tt
answered_one s line (command.State state deaf) cs lines Js have = tt
answered_one s line (command.BadState offset) cs lines Js have = tt
answered_one s line (command.Stop node) cs lines Js have = tt
answered_one s line (command.Start node) cs lines Js have = tt
answered_one s line (command.Net at fates) cs lines Js have = tt
answered_one s line command.Maintain cs lines Js have = tt
answered_one s line (command.Search query) cs lines Js have = tt
answered_one s line (command.BadQuery offset) cs lines Js have = tt

answered_in : (s : Setting) (line : ℕ) (cs : List Asked) (lines : ℕ → Lines) (Js : List Journal) → HaveOutcomesIn s line cs lines Js → AreAnswered s line cs Js
answered_in s line [] lines Js have = tt
answered_in s line (c ∷ cs) lines Js have = (answered_one s line c cs lines Js have, answered_in s (suc line) cs (λ lane. with_fed s lane line c (lines lane)) Js have)

no_line : (x : FeedLine) → IsAmong [] x → ⊥
no_line x among = by_place among.0 among.1
  where
    by_place : (k : ℕ) → slice_get [] k ≡ Some x → ⊥
    by_place zero at = cc at
    by_place (suc k) at = cc at

pub fed_answered : (s : Setting) (feeders line : ℕ) (cs : List Asked) (old new : Cell) → IsFed s feeders line cs (λ _. []) old new → length new.lanes ≡ 2 ^ s.bits → AreAnswered s line cs (journals_of new)
fed_answered s feeders line cs old new fed whole = answered_in s line cs (λ lane. []) (journals_of new) (λ lane small x among.
    let w = lane_there new.lanes lane (omega (arith, small, whole)) in
    let v = lane_was old.lanes new.lanes lane w.0 fed.lanes.count w.1 in
    subst (λ (J : Journal). IsSome (outcome_in x.number J)) (sym (journal_at new.lanes lane w.0 w.1)) (outcome x lane (w.0).journal ((fed.lanes.each lane v.0 w.0 v.1 w.1).answered x among)))
  where
    outcome : (x : FeedLine) (lane : ℕ) (J : Journal) → IsAmong [] x ⊎ IsSome (outcome_in x.number J) → IsSome (outcome_in x.number J)
    outcome x lane J (inl out) = absurd (no_line x out)
    outcome x lane J (inr some) = some

-- ---- a line that ends a segment

module _ (s : Setting) (plans : ℕ → List Fate) (feeders : ℕ) (ps : List Part) (c : Asked) (old new : Cell) (k : ℕ) (done : HaveFed s plans feeders ps old) (after : IsAfter s k c old new) where
  pub cut_goes : length new.lanes ≡ length old.lanes → (n : ℕ) → n < k → GoesOn n old new
  cut_goes count n less = record {
    count = count;
    each = λ lane w at. let found = grew_after s c old new k after lane w at in (found.0, (found.1.0, (found.1.1).journal));
    plans = (moves s plans (asked_in ps) c old new k done after).plans;
    spans = λ line low. leaves_spans s c old new k after line (λ e. absurd (omega (arith, e, low, less)));
    fronts = λ line low. leaves_fronts s c old new k after line (λ e. absurd (omega (arith, e, low, less)));
  }

  pub cut_within : cuts c ≡ true → ReadWithin old → ReadWithin new
  cut_within cut within line gs has lane w g at there = elim (read_after s c old new k after) [
    | inl own ↦ absurd (no_search own.0 (subst (λ (x : Asked). cuts x ≡ true) own.1 cut))
    | inr same ↦
        let found = grew_after s c old new k after lane w at in
        within_on (found.0).journal w.journal g (found.1.1).journal (within line gs (sym (ap (fronts_of line) same) ∙ has) lane found.0 g found.1.0 there)
  ]
    where
      no_search : (q : Said) → cuts (command.Search q) ≡ true → ⊥
      no_search q h = false≢true h

pub cut_answered : (s : Setting) (line : ℕ) (c : Asked) (Js : List Journal) → cuts c ≡ true → IsAnswered s line c Js
cut_answered s line (command.Feed op via) Js cut = absurd (false≢true cut)
cut_answered s line command.Blank Js cut = tt
cut_answered s line command.TooLong Js cut = tt
cut_answered s line command.Barrier Js cut = tt
cut_answered s line (command.Bad why) Js cut = tt
cut_answered s line (command.State state deaf) Js cut = tt
cut_answered s line (command.BadState offset) Js cut = tt
cut_answered s line (command.Stop node) Js cut = tt
cut_answered s line (command.Start node) Js cut = tt
cut_answered s line (command.Net at fates) Js cut = tt
cut_answered s line command.Maintain Js cut = tt
cut_answered s line (command.Search query) Js cut = tt
cut_answered s line (command.BadQuery offset) Js cut = tt
