-- The journal as a line began.
use Rattle.std.proofs.Common.{◌≡◌, ℕ, Bool, true, false, cond, [], ◌∷◌, Option, Some, None, refl, ap, ◌∙◌, subst, inl, inr, eqb, eq-eqb}
use Rattle.std.proofs.lemmas.Bool.{eqb-true}
use Rattle.lane_journals.specs.Stamps.{Stamp}
use Rattle.lane_journals.specs.Buckets.{Id}
use Rattle.lane_journals.specs.Events.{Event, Begun}
use Rattle.lane_journals.specs.Readers.{Journal, Beginning, began, before_line}
use Rattle.lane_journals.specs.Legal.{Legal}
use Rattle.lane_journals.proofs.Basics.{began-cases}

pub before-now : (J : Journal) (k d v : ℕ) (id : Id) (s : Option Stamp) → before_line k (Begun k d v id s ∷ J) ≡ J
before-now J k d v id s = rw (eq-eqb k k refl) refl

module _ (acks : ℕ) (P : ℕ → ℕ → Bool) where
  pub before-same : (J : Journal) (e : Event) → Legal acks P (e ∷ J) → (k : ℕ) (b : Beginning) → began k J ≡ Some b → before_line k (e ∷ J) ≡ before_line k J
  before-same J (Begun m d v id s) l k b f = by_case (eqb m k) refl
    where
      by_case : (t : Bool) → eqb m k ≡ t → cond t J (before_line k J) ≡ before_line k J
      by_case true e = let x = eqb-true m k e in let y : began k J ≡ None = subst (λ (i : ℕ). began i J ≡ None) x (l.1).fresh in cc
      by_case false e = refl
  before-same J _ l k b f = refl

  -- what holds as the line begins and stays, holds
  pub lasting : (H : Journal → Type 0) → ((e : Event) (J : Journal) → H J → H (e ∷ J)) → (J : Journal) → Legal acks P J → (k : ℕ) (b : Beginning) → began k J ≡ Some b → H (before_line k J) → H J
  lasting H stays [] l k b f h = cc
  lasting H stays (e ∷ J) l k b f h = elim (began-cases k J e b f) [
    | inl old ↦ stays e J (lasting H stays J l.0 k b old (subst H (before-same J e l k b old) h))
    | inr new ↦ stays e J (now e new.0 new.1 h)
  ]
    where
      now : (e : Event) (d : ℕ) → e ≡ Begun k d b.version b.id b.stamp → H (before_line k (e ∷ J)) → H J
      now e d is h = subst H (ap (λ (y : Event). before_line k (y ∷ J)) is ∙ before-now J k d b.version b.id b.stamp) h

  pub before-legal : (J : Journal) → Legal acks P J → (k : ℕ) → Legal acks P (before_line k J)
  before-legal [] l k = tt
  before-legal (Begun m d v id s ∷ J) l k = by_case (eqb m k) (before-legal J l.0 k)
    where
      by_case : (t : Bool) → Legal acks P (before_line k J) → Legal acks P (cond t J (before_line k J))
      by_case true ih = l.0
      by_case false ih = ih
  before-legal (e ∷ J) l k = plain e (before-legal J l.0 k) l.0
    where
      plain : (e : Event) → Legal acks P (before_line k J) → Legal acks P J → Legal acks P (before_line k (e ∷ J))
      plain (Begun m d v id s) ih lj = by_case (eqb m k)
        where
          by_case : (t : Bool) → Legal acks P (cond t J (before_line k J))
          by_case true = lj
          by_case false = ih
      plain e ih lj = ih
