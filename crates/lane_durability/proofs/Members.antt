-- What complete members and active nodes hold.
use Rattle.std.proofs.Common.{◌∙◌, ◌≡◌, ℕ, ◌≤◌, Bool, true, Some, arith, inl}
use Rattle.lane_journals.specs.Stamps.{Stamp, Le}
use Rattle.lane_journals.specs.Buckets.{Id, contains, key_of}
use Rattle.lane_journals.specs.Readers.{Journal, version, store, holds, base, complete, Acked}
use Rattle.lane_journals.specs.RowLists.{Row, rows, IsIn}
use Rattle.lane_journals.specs.Legal.{Legal}
use Rattle.lane_journals.proofs.Parted.{listed-member}
use Rattle.lane_journals.proofs.Marks.{complete-took}
use Rattle.lane_journals.proofs.Kept.{took-piece}
use Rattle.lane_durability.proofs.Bases.{facts}

module _ (acks : ℕ) (P : ℕ → ℕ → Bool) (some : 1 ≤ acks) where
  -- what complete members hold
  pub members-hold : (J : Journal) → Legal acks P J → (v n : ℕ) (id : Id) → complete v n (key_of id) J ≡ true → version n J ≡ v → ((m : ℕ) → P v m ≡ true → Le (base v m id J) (store n id J)) × ((s : Stamp) → Acked v id s J → Le (Some s) (store n id J))
  members-hold J l v n id c at = let x = (facts acks P some J l).marked v n id (inl c) (omega arith) in (x.bases, x.acked)

  pub rows-hold : (J : Journal) → Legal acks P J → (v n : ℕ) (r : Row) (id : Id) → IsIn r (rows v J) → r.members n ≡ true → version n J ≡ v → contains r.bucket (key_of id) ≡ true →
      ((m : ℕ) → P v m ≡ true → Le (base v m id J) (store n id J)) × ((s : Stamp) → Acked v id s J → Le (Some s) (store n id J))
  rows-hold J l v n r id h m at i = members-hold J l v n id (listed-member acks P J l v n r h (key_of id) i ∙ m) at

  pub members-pieces : (J : Journal) → Legal acks P J → (v n key : ℕ) → complete v n key J ≡ true → version n J ≡ v → holds n key J ≡ true
  members-pieces J l v n key c at = let h = complete-took acks P J l v n key c in took-piece acks P some J l v h.round n h.bucket h.union key h.took h.inside h.free (omega arith)
