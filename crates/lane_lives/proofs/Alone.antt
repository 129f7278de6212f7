-- A line that runs alone is a segment of its own.
use Rattle.std.proofs.Common.{◌≡◌, ◌<◌, ℕ, zero, suc, List, [], ◌∷◌, Option, None, Some, is_some, inl, inr, refl, sym, ap, ◌∙◌, subst, slice_get, arith}
use Rattle.std.specs.Option.{IsSome}
use Rattle.bucket_ids.specs.Buckets.{Low}
use Rattle.distributor_part.specs.declared.rules.Rules.{Rules}
use Rattle.lane_journals.specs.KeptJournals.{IsLegal}
use Rattle.lane_journals.specs.Meanings.{history}
use Rattle.lane_journals.specs.declared.event.LaneEvent.{LaneEvent}
use Rattle.lane_keeping.specs.LaneKeeping.{setting_of}
use Rattle.lane_keeping.specs.Lines.{IsFresh}
use Rattle.lane_keeping.specs.Tidings.{heard_next}
use Rattle.proof_basics.proofs.Options.{some_same, none_some}
use Rattle.lane_calls.specs.Lines.{FeedLine, Lines, IsCarriedOut}
use Rattle.lane_calls.specs.Readings.{outcome_in}
use Rattle.lane_calls.proofs.OneLine.{fresh_none, outcome_refused, run_outcome, passes_next}
use Rattle.lane_calls.specs.Segments.{IsAmong, HasTurn, IsNext}
use Rattle.lane_calls.specs.Growth.{Grows}
use Rattle.lane_lives.specs.declared.setting.Setting.{Setting}
use Rattle.lane_lives.specs.Lives.{Runs, Feeds, Does}

-- it has its outcome
answered : (lane : Low) (rules : Rules) (line : FeedLine) (via : Option ℕ) (J K : List LaneEvent) → outcome_in line.number J ≡ None → IsCarriedOut lane rules line via J K → IsSome (outcome_in line.number K)
answered lane rules line None J K none c =
    let p = passes_next c.owner c.state J in
    ap is_some (run_outcome lane rules line c.owner c.state (heard_next c.owner (Some c.state) J) K (p.outcome_is line.number ∙ none) c.run)
answered lane rules line (Some d) J K none c = elim c.ends [
  | inl r ↦ ap is_some (run_outcome lane rules line d c.state J K none r.1)
  | inr r ↦ ap is_some (ap (outcome_in line.number) r.refused ∙ outcome_refused line.number d _ J none)
]

only-one : (line other : FeedLine) → IsAmong (line ∷ []) other → other ≡ line
only-one line other among = by_place among.0 among.1
  where
    by_place : (k : ℕ) → slice_get (line ∷ []) k ≡ Some other → other ≡ line
    by_place zero at = sym (some_same line other at)
    by_place (suc k) at = absurd (none_some other at)

-- nobody comes before it
has-turn : (feeders : ℕ) (line : FeedLine) (J : List LaneEvent) → HasTurn feeders (line ∷ []) line J
has-turn feeders line J other among same earlier =
    let less : line.number < line.number = subst (λ (x : FeedLine). x.number < line.number) (only-one line other among) earlier in
    absurd (omega (arith, less))

abbrev pub AloneGrows : Type 0
AloneGrows = (feeders : ℕ) (lines : Lines) (lane : Low) (rules : Rules) (line : FeedLine) (J K : List LaneEvent) → IsNext feeders lines line J → IsLegal (setting_of lane rules) K
    → IsCarriedOut lane rules line line.via J K → Grows feeders lines lane rules J K

pub alone_fed : AloneGrows → (s : Setting) (lane : Low) (feeders : ℕ) (line : FeedLine) (J K : List LaneEvent) → IsFresh (history J) line.number → IsLegal (setting_of lane s.rules) K
    → Does s lane (Runs line) J K → Does s lane (Feeds feeders (line ∷ []) []) J K
alone_fed grows s lane feeders line J K fresh legal does = record {
  grew = grows feeders (line ∷ []) lane s.rules line J K (record { among = (0, refl); fresh = fresh; turn = has-turn feeders line J }) legal does;
  answered = λ other among. inr (subst (λ (x : FeedLine). IsSome (outcome_in x.number K)) (sym (only-one line other among)) (answered lane s.rules line line.via J K (fresh_none line.number J fresh) does));
}
