-- What the events of a segment leave as it was.
use Rattle.std.proofs.Common.{◌≡◌, ◌⊎◌, ◌==◌, ℕ, List, ◌∷◌, IsSome, inl, inr, refl, sym, ap, ◌∙◌, subst}
use Rattle.bucket_ids.specs.Buckets.{Low}
use Rattle.distributor_part.specs.declared.rules.Rules.{Rules}
use Rattle.messages.specs.declared.outcome.Outcome.TheVariants.{OwnedElsewhere}
use Rattle.messages.specs.declared.decision.Decision.TheVariants.{RoundEnded}
use Rattle.lane_journals.specs.Readers.{held}
use Rattle.lane_journals.specs.Meanings.{history}
use Rattle.lane_journals.specs.declared.event.LaneEvent.{LaneEvent}
use Rattle.lane_journals.specs.declared.event.LaneEvent.TheVariants as event
use Rattle.lane_keeping.specs.Acting.{IsNoHearing}
use Rattle.lane_keeping.specs.Lines.{IsFresh}
use Rattle.lane_keeping.specs.Tidings.{last_state}
use Rattle.operation_keeping.specs.Wants.{IsCutRound}
use Rattle.operation_keeping.proofs.Lines.{fresh-waits}
use Rattle.lane_calls.specs.Lines.{FeedLine, Lines, IsNone}
use Rattle.lane_calls.specs.Readings.{told_events}
use Rattle.lane_calls.proofs.Leaving.{leaves_event}
use Rattle.lane_calls.proofs.Quiet.{AddsFor, since_adds, by_carriage}
use Rattle.lane_calls.proofs.Told.{some_or, last_told}
use Rattle.lane_calls.specs.Growth.{IsHeard, IsTurnedAway, IsStep, Hears, Begins, Refuses, Wants, CutsOff, Closes, Carries, Grows, Same, More}
use Rattle.lane_calls.proofs.Ordering.{not-of}

-- the line is refused, and a round that was cut off ends
pub refused-is : (lane : Low) (line : FeedLine) (J : List LaneEvent) (e : LaneEvent) → (r : IsTurnedAway lane line J e) → e ≡ event.Refused line.number r.distributor (OwnedElsewhere (r.refused).owner (r.state).version)
refused-is lane line J e r = let h = (r.refused).refused in cc

pub ended-is : (lane : Low) (J : List LaneEvent) (e : LaneEvent) → (c : IsCutRound lane J (e ∷ J)) → e ≡ event.Decided c.distributor (c.state).version (RoundEnded (c.round).row (c.round).holders)
ended-is lane J e c = let h = c.ended in cc

adds-no-hearing : (line : ℕ) (e : LaneEvent) → AddsFor line e → IsNoHearing e
adds-no-hearing line (event.Heard d v) h = absurd h
adds-no-hearing line _ h = tt

pub unheard-held : (d : ℕ) (e : LaneEvent) (J : List LaneEvent) → IsNoHearing e → held d (history (e ∷ J)) ≡ held d (history J)
unheard-held d (event.Heard f v) J h = absurd h
unheard-held d _ J h = refl

module _ (feeders : ℕ) (lines : Lines) (lane : Low) (rules : Rules) where
  -- ---- one event

  module _ (J : List LaneEvent) (e : LaneEvent) where
    -- it is a hearing of the newest state by its owner, or none
    pub step-hears : IsStep feeders lines lane rules J e → IsHeard lane J e ⊎ IsNoHearing e
    step-hears (Hears h) = inl h
    step-hears (Begins line next b) = inr (subst IsNoHearing (sym b.event) tt)
    step-hears (Refuses line next r) = inr (subst IsNoHearing (sym (refused-is lane line J e r)) tt)
    step-hears (Wants line among w) = inr (adds-no-hearing line.number e (since_adds lane rules line.number line.operation _ e J w.wants))
    step-hears (CutsOff c) = inr (subst IsNoHearing (sym (ended-is lane J e c)) tt)
    step-hears (Closes line among c) = inr (subst IsNoHearing (sym c.event) tt)
    step-hears (Carries c) = inr (adds-no-hearing 0 e (by_carriage 0 e c))

    -- it tells of no state and of no node
    pub step-tells : IsStep feeders lines lane rules J e → told_events (e ∷ J) ≡ told_events J
    step-tells (Hears h) = ap (λ (x : LaneEvent). told_events (x ∷ J)) h.event
    step-tells (Begins line next b) = ap (λ (x : LaneEvent). told_events (x ∷ J)) b.event
    step-tells (Refuses line next r) = ap (λ (x : LaneEvent). told_events (x ∷ J)) (refused-is lane line J e r)
    step-tells (Wants line among w) = (leaves_event line.number J e (since_adds lane rules line.number line.operation _ e J w.wants)).told_is
    step-tells (CutsOff c) = ap (λ (x : LaneEvent). told_events (x ∷ J)) (ended-is lane J e c)
    step-tells (Closes line among c) = ap (λ (x : LaneEvent). told_events (x ∷ J)) c.event
    step-tells (Carries c) = (leaves_event 0 J e (by_carriage 0 e c)).told_is

    -- who held a state holds one
    step-held : (d : ℕ) → IsStep feeders lines lane rules J e → IsSome (held d (history J)) → IsSome (held d (history (e ∷ J)))
    step-held d step some = elim (step-hears step) [
      | inl h ↦ subst (λ (x : LaneEvent). IsSome (held d (history (x ∷ J)))) (sym h.event) (some_or _ (h.state).version (h.distributor == d) some)
      | inr none ↦ subst IsSome (sym (unheard-held d e J none)) some
    ]

  -- ---- all of them

  abbrev By : List LaneEvent → List LaneEvent → Type 0
  By J K = Grows feeders lines lane rules J K

  -- what holds behind each event where it holds before holds in the end, and the other way
  pub grown-up : (P : List LaneEvent → Type 0) → ((e : LaneEvent) (L : List LaneEvent) → IsStep feeders lines lane rules L e → P L → P (e ∷ L)) → (J K : List LaneEvent) → By J K → P J → P K
  grown-up P over J K Same p = p
  grown-up P over J K (More e L grew step) p = over e L step (grown-up P over J L grew p)

  pub grown-down : (P : List LaneEvent → Type 0) → ((e : LaneEvent) (L : List LaneEvent) → IsStep feeders lines lane rules L e → P (e ∷ L) → P L) → (J K : List LaneEvent) → By J K → P K → P J
  grown-down P over J K Same p = p
  grown-down P over J K (More e L grew step) p = grown-down P over J L grew (over e L step p)

  pub grown-tells : (J K : List LaneEvent) → By J K → told_events K ≡ told_events J
  grown-tells J K grew = grown-up (λ (L : List LaneEvent). told_events L ≡ told_events J) (λ e L step is. step-tells L e step ∙ is) J K grew refl

  -- the newest state is the same
  pub grown-newest : (J K : List LaneEvent) → By J K → last_state K ≡ last_state J
  grown-newest J K grew = sym (last_told K) ∙ ap last_state (grown-tells J K grew) ∙ last_told J

  pub grown-held : (d : ℕ) (J K : List LaneEvent) → By J K → IsSome (held d (history J)) → IsSome (held d (history K))
  grown-held d J K grew some = grown-up (λ (L : List LaneEvent). IsSome (held d (history L))) (λ e L step some. step-held L e d step some) J K grew some

  -- another line that had no event has none
  pub grown-fresh : (n : ℕ) → IsNone n lines → (J K : List LaneEvent) → By J K → IsFresh (history J) n → IsFresh (history K) n
  grown-fresh n none J K grew fresh = grown-up (λ (L : List LaneEvent). IsFresh (history L) n) (λ e L step old. fresh-waits L e n (not-of feeders lines lane rules n none L e step) old) J K grew fresh
