-- Whether an operation is under way, read off how far the lines are.
use Rattle.std.proofs.Common.{◌≡◌, ◌≢◌, ◌||◌, ◌∙◌, ℕ, zero, suc, Bool, true, false, not, List, [], ◌∷◌, Some, refl, sym, ap, slice_get}
use Rattle.std.specs.Prelude.{MatchBool}
use Rattle.std.specs.List.{list_any}
use Rattle.proof_basics.proofs.Options.{none_some, some_same}
use Rattle.lane_calls.specs.declared.progress.UnderWay.{UnderWay}
use Rattle.lane_calls.specs.LaneValues.{LaneValue, IsLaneValue, IsPlace}
use Rattle.lane_calls.specs.Lines.{FeedLine, Lines}
use Rattle.lane_calls.proofs.Calling.{segment-holds, segment-own}
use Rattle.lane_locks.specs.declared.lines.Line.{Line}
use Rattle.lane_locks.specs.declared.lines.Stage.{Stage}
use Rattle.lane_locks.specs.declared.lines.Stage.TheVariants.{Waiting, Going, Ending, Answered}
use Rattle.lane_locks.specs.Served.{StageIs, is_under_way, AreOver}
use Rattle.lane_locks.specs.Slots.{IsKept}
use Rattle.lane_locks.proofs.Staging.{under-way-none, under-way-known}
use Rattle.lane_locks.proofs.Turning.{line-back, stage-there, line-there}

clash : {X : Type 0} → true ≡ false → X
clash h = absurd (cc)

-- ---- the test of a list

neither : (a b : Bool) → (a || b) ≡ false → (a ≡ false) × (b ≡ false)
neither false b h = (refl, h)
neither true b h = clash h

any-none : (stages : List Stage) → list_any is_under_way stages ≡ false → AreOver stages
any-none [] none at s found = absurd (none_some s found)
any-none (x ∷ xs) none zero s found = ap is_under_way (sym (some_same x s found)) ∙ (neither (is_under_way x) (list_any is_under_way xs) none).0
any-none (x ∷ xs) none (suc at) s found = any-none xs (neither (is_under_way x) (list_any is_under_way xs) none).1 at s found

none-any : (stages : List Stage) → AreOver stages → list_any is_under_way stages ≡ false
none-any [] over = refl
none-any (x ∷ xs) over = ap (λ (b : Bool). b || list_any is_under_way xs) (over 0 x refl) ∙ none-any xs (λ at s found. over (suc at) s found)

-- ---- what it says of the lane

module _ (feeders : ℕ) (lines : Lines) (first v : LaneValue) (ls : List Line) (stages : List Stage) (k : IsKept feeders lines first v ls stages) where
  abbrev holds : IsLaneValue v
  holds = segment-holds feeders lines first v (k.served).segment

  -- the line of an operation that is under way is as far
  stage-says : (at : ℕ) (u : UnderWay) → slice_get v.under_way at ≡ Some u → AreOver stages → ⊥
  stage-says at u found over =
      let of = (segment-own feeders lines first v (k.served).segment at u found).of_lines in
      let place = (of.among).0 in
      let l = line-back feeders lines first v ls stages k place of.line (of.among).1 in
      let s = stage-there feeders lines first v ls stages k place l.0 l.1 in
      let here : IsPlace (l.0).number v.under_way at u = record { found = found; line_is = of.number_is ∙ ap (λ (z : FeedLine). z.number) l.2 } in
      by_stage (l.0).number here s.0 (((k.served).stages_are).each place l.0 s.0 l.1 s.1) (over place s.0 s.1)
    where
      by_stage : (n : ℕ) → IsPlace n v.under_way at u → (s : Stage) → StageIs v n s → is_under_way s ≡ false → ⊥
      by_stage n here Waiting h off = under-way-known v holds n at u here h
      by_stage n here Going h off = clash off
      by_stage n here Ending h off = clash off
      by_stage n here (Answered x) h off = none_some x (sym (under-way-none v holds n at u here) ∙ h)

  over-idle : AreOver stages → v.under_way ≡ []
  over-idle over = by_list v.under_way refl
    where
      by_list : (us : List UnderWay) → v.under_way ≡ us → us ≡ []
      by_list [] is = refl
      by_list (u ∷ us) is = absurd (stage-says 0 u (ap (λ (xs : List UnderWay). slice_get xs 0) is) over)

  pub idle-over : v.under_way ≡ [] → AreOver stages
  idle-over idle at s found =
      let l = line-there feeders lines first v ls stages k at s found in
      by_stage (l.0).number s (((k.served).stages_are).each at l.0 s l.1 found)
    where
      nowhere : (i : ℕ) (u : UnderWay) → slice_get v.under_way i ≡ Some u → ⊥
      nowhere i u h = none_some u (ap (λ (us : List UnderWay). slice_get us i) (sym idle) ∙ h)

      by_stage : (n : ℕ) (t : Stage) → StageIs v n t → is_under_way t ≡ false
      by_stage n Waiting h = refl
      by_stage n Going h = absurd (nowhere h.0 h.1 (h.2).found)
      by_stage n Ending h = absurd (nowhere h.0 h.1 (h.2).found)
      by_stage n (Answered x) h = refl

  pub idle-is : MatchBool (not (list_any is_under_way stages)) (v.under_way ≡ []) (v.under_way ≢ [])
  idle-is = by_any (list_any is_under_way stages) refl
    where
      by_any : (b : Bool) → list_any is_under_way stages ≡ b → MatchBool (not b) (v.under_way ≡ []) (v.under_way ≢ [])
      by_any false is = over-idle (any-none stages is)
      by_any true is = λ idle. clash (sym is ∙ none-any stages (idle-over idle))
