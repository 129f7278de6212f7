-- A node that counts names no serial again.
use Rattle.std.proofs.Common.{◌≡◌, ℕ, ◌≤◌, Bool, true, [], ◌∷◌, Option, Some, refl, ap, ◌∙◌, arith, inl, inr, ◌⊎◌}
use Rattle.lane_journals.specs.Buckets.{Bucket}
use Rattle.lane_journals.specs.Events.{Body, Read, Event}
use Rattle.lane_journals.specs.Readers.{Journal, Message, still, acceptable, Given}
use Rattle.lane_journals.specs.Facts.{Shown}
use Rattle.lane_journals.specs.Legal.{Legal}
use Rattle.lane_journals.proofs.Serials.{Accepts, Leaves, effect, ShownNow, shown-cases, shown-now}

-- last n J is the node's counter, and serial n c J the serial of its piece c
module _ (last : ℕ → Journal → ℕ) (serial : ℕ → Bucket → Journal → Option ℕ) where
  -- what a node's taking of one event must give
  pub record Counts (J : Journal) (e : Event) (n : ℕ) : Type 0 where
    pub grows : last n J ≤ last n (e ∷ J)
    -- a serial that isn't new stood before, and what was accepted now doesn't touch its piece
    pub old : (c : Bucket) (s : ℕ) → serial n c (e ∷ J) ≡ Some s → s ≤ last n J → (serial n c J ≡ Some s) × ((a : Accepts J e n) → still (a.message).body (a.given).names c s true ≡ true)
    -- a Read of a row names pieces by their serials, which are counted
    pub named : (b : Bucket) (g : Given) → ShownNow n b g J e → (c : Bucket) (s : ℕ) → g.names c s ≡ true → (serial n c (e ∷ J) ≡ Some s) × (s ≤ last n (e ∷ J))

  abbrev pub Counted : ℕ → Journal → Type 0
  Counted n [] = Unit {0}
  Counted n (e ∷ J) = Counted n J × Counts J e n

  still-true : (x : Body) (names : Bucket → ℕ → Bool) (c : Bucket) (s : ℕ) (old : Bool) → still x names c s true ≡ true → old ≡ true → still x names c s old ≡ true
  still-true x names c s old h e = rw e h

  named-true : (x : Body) (b : Bucket) (names : Bucket → ℕ → Bool) (c : Bucket) (s : ℕ) (old : Bool) → x ≡ Read b → names c s ≡ true → still x names c s old ≡ true
  named-true x b names c s old is h = rw (is, h) refl

  record Stands (n : ℕ) (c : Bucket) (s : ℕ) (J : Journal) : Type 0 where
    counted : s ≤ last n J
    stands : serial n c J ≡ Some s → acceptable n c s J ≡ true

  -- a serial that was named is counted, and is acceptable while its piece has it
  stands : (acks : ℕ) (P : ℕ → ℕ → Bool) (J : Journal) → Legal acks P J → (n : ℕ) → Counted n J → (v r : ℕ) (b : Bucket) (g : Given) → Shown v r n b g J → (c : Bucket) (s : ℕ) → g.names c s ≡ true → Stands n c s J
  stands acks P [] l n k v r b g h c s named = let f = h.reply in cc
  stands acks P (e ∷ J) l n k v r b g h c s named = elim (shown-cases acks P J e l v r n b g h) [
    | inl before ↦ (let i = stands acks P J l.0 n k.0 v r b g before c s named in
        let up = k.1.grows in let low = i.counted in
        record { counted = omega arith; stands = λ now. let o = k.1.old c s now i.counted in kept i (effect J e acks P l.1 n) o.0 o.1 })
    | inr new ↦ (let x = shown-now acks P J e l.1 n b g new.0 in
        let body : (x.0).message.body ≡ Read b = ap (λ (m : Message). m.body) x.1 ∙ (new.0).body in
        let names : (x.0).given.names c s ≡ true = ap (λ (y : Given). y.names c s) x.2 ∙ named in
        let o = k.1.named b g new.0 c s named in
        record { counted = o.1; stands = λ now. (x.0).serials c s ∙ named-true (x.0).message.body b (x.0).given.names c s (acceptable n c s J) body names })
  ]
    where
      kept : Stands n c s J → Leaves J e n ⊎ Accepts J e n → serial n c J ≡ Some s → ((a : Accepts J e n) → still (a.message).body (a.given).names c s true ≡ true) → acceptable n c s (e ∷ J) ≡ true
      kept i (inl leaves) was f = leaves.serials c s ∙ i.stands was
      kept i (inr a) was f = a.serials c s ∙ still-true (a.message).body (a.given).names c s (acceptable n c s J) (f a) (i.stands was)

  -- so what a Read names by the pieces' serials may be named
  pub may-name : (acks : ℕ) (P : ℕ → ℕ → Bool) (J : Journal) → Legal acks P J → (n : ℕ) → Counted n J → (g : Given) → ((c : Bucket) (s : ℕ) → g.names c s ≡ true → serial n c J ≡ Some s) →
      (c : Bucket) (s : ℕ) → g.names c s ≡ true → (v r : ℕ) (d : Bucket) (h : Given) → Shown v r n d h J → h.names c s ≡ true → acceptable n c s J ≡ true
  may-name acks P J l n k g by c s named v r d h shown had = (stands acks P J l n k v r d h shown c s had).stands (by c s named)
