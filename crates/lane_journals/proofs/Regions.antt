-- The region of a node.
use Rattle.std.proofs.Common.{◌≡◌, ℕ, ◌≤◌, Bool, ◌∷◌, Some, subst₂, arith}
use Rattle.lane_journals.specs.Stamps.{Le}
use Rattle.lane_journals.specs.Buckets.{Id, key_of}
use Rattle.lane_journals.specs.Events.{Event}
use Rattle.lane_journals.specs.Readers.{Journal, version, store, active}
use Rattle.lane_journals.specs.Facts.{InRegion}
use Rattle.lane_journals.specs.Legal.{Legal}
use Rattle.lane_journals.proofs.Marks.{active-complete, sent-active}
use Rattle.lane_journals.proofs.Kept.{active-kept}

module _ (acks : ℕ) (P : ℕ → ℕ → Bool) (some : 1 ≤ acks) where
  -- regions
  pub region-active : (J : Journal) → Legal acks P J → (v n key : ℕ) → InRegion v n key J → active v key J ≡ Some n
  region-active J l v n key r = subst₂ (λ (x y : ℕ). active x key J ≡ Some y) r.version r.receiver (sent-active acks P J l r.number r.message r.bucket r.was_sent r.body key r.inside)

  pub region-newer : (J : Journal) → Legal acks P J → (e : Event) → Legal acks P (e ∷ J) → (v n : ℕ) (id : Id) → InRegion v n (key_of id) J → version n (e ∷ J) ≡ v → Le (store n id J) (store n id (e ∷ J))
  region-newer J l' e l v n id r at = active-kept acks P some J e l v n id (active-complete acks P J l.0 v (key_of id) n (region-active J l.0 v n (key_of id) r)) (omega arith)
