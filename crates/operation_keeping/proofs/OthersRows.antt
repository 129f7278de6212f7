-- The row in which an operation is prepared stays as it is while the operation is open, but that members lose their marks.
use Rattle.std.proofs.Common.{◌≡◌, ℕ, Bool, true, ◌∷◌, Option, Some, None, inl, inr, refl, sym, ◌∙◌}
use Rattle.lane_journals.specs.Buckets.{Bucket, contains}
use Rattle.lane_journals.specs.Events.{Event, RoundEnded, ActiveOn, Decided}
use Rattle.lane_journals.specs.Readers.{Journal, Beginning, Preparing, complete, active}
use Rattle.lane_journals.specs.Facts.{IsOpen}
use Rattle.lane_journals.specs.Legal.{Permits, Legal}
use Rattle.lane_journals.proofs.Rows.{quiet-open, running-idle}
use Rattle.lane_journals.proofs.Marks.{complete-before, active-cases, active-stays}
use Rattle.operation_keeping.proofs.Plain.{none-some}

module _ (acks : ℕ) (P : ℕ → ℕ → Bool) (H : Journal) (e : Event) (legal : Legal acks P (e ∷ H)) (v line : ℕ) (b : Beginning) (p : Preparing) (is_open : IsOpen v line b p H) (key : ℕ) (inside : contains p.row key ≡ true) where
  -- no round of the row ends
  pub complete-falls : (n : ℕ) → complete v n key (e ∷ H) ≡ true → complete v n key H ≡ true
  complete-falls n h = elim (complete-before v n key H e h) [ inl old ↦ old | inr new ↦ absurd (ends new.0 new.1 new.2 new.3 new.4) ]
    where
      ends : (d : ℕ) (c : Bucket) (set : ℕ → Bool) → e ≡ Decided d v (RoundEnded c set) → contains c key ≡ true → ⊥
      ends d c set is here = let q : Permits acks P H (Decided d v (RoundEnded c set)) = rw is at legal.1 in running-idle acks P H legal.0 v line b p c key (q.1).under_way is_open here inside

  -- no node is activated
  active-falls : (n : ℕ) → active v key (e ∷ H) ≡ Some n → active v key H ≡ Some n
  active-falls n h = elim (active-cases acks P v key n H e h) [ inl old ↦ old | inr new ↦ absurd (decides new.0 new.1 new.2 new.3) ]
    where
      decides : (d : ℕ) (c : Bucket) → e ≡ Decided d v (ActiveOn c n) → contains c key ≡ true → ⊥
      decides d c is here = let q : Permits acks P H (Decided d v (ActiveOn c n)) = rw is at legal.1 in quiet-open acks P H legal.0 v line b p c key (q.1).quiet is_open inside here

  pub active-passes : active v key (e ∷ H) ≡ active v key H
  active-passes = by_active (active v key H) refl
    where
      by_now : (o : Option ℕ) → active v key (e ∷ H) ≡ o → active v key H ≡ None → o ≡ None
      by_now None now old = refl
      by_now (Some n) now old = absurd (none-some n (sym old ∙ active-falls n now))

      by_active : (o : Option ℕ) → active v key H ≡ o → active v key (e ∷ H) ≡ active v key H
      by_active (Some n) old = active-stays acks P v key n H e legal.1 old ∙ sym old
      by_active None old = by_now (active v key (e ∷ H)) refl old ∙ sym old
