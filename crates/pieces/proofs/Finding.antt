-- Pieces are found by the runs of their buckets.
use Rattle.std.proofs.Common.{◌≡◌, ◌||◌, ℕ, zero, suc, ◌+◌, ◌<◌, ◌≤◌, Bool, true, false, List, [], ◌∷◌, take, drop, refl, ap, ap₂, ◌∙◌, arith, get_or, length, nat_le}
use Rattle.std.specs.List.{list_any, AllWithin}
use Rattle.bucket_ids.specs.Buckets.{Low, IsBucket}
use Rattle.bucket_ids.specs.Paths.{first_path, last_path}
use Rattle.pieces.specs.declared.piece.Piece.{Piece}
use Rattle.pieces.specs.Pieces.{does_meet}
use Rattle.pieces.specs.Runs.{IsLaid, AreRuns}
use Rattle.std.specs.List.Sorted.{IsNonDecreasingBy}
use Rattle.pieces.specs.Places.{IsRun}
use Rattle.proof_basics.proofs.Tests.{or_false}
use Rattle.pieces.proofs.PieceLaws.{meets-sym}
use Rattle.pieces.proofs.RunLaws.{apart-runs, overlap-meets, first-last, le-true, le-false}

-- ---- places in a laid list
pub laid_bucket : (lo : ℕ) (ps : List Piece) (k : ℕ) (d : Piece) → IsLaid lo ps → k < length ps → IsBucket (get_or ps k d).bucket
laid_bucket lo [] k d h lt = absurd (omega arith)
laid_bucket lo (p ∷ ps) zero d h lt = h.1
laid_bucket lo (p ∷ ps) (suc k) d h lt = laid_bucket (last_path p.bucket + 1) ps k d h.2 (omega (arith, lt))

pub laid_from : (lo : ℕ) (ps : List Piece) (k : ℕ) (d : Piece) → IsLaid lo ps → k < length ps → lo ≤ first_path (get_or ps k d).bucket
laid_from lo [] k d h lt = absurd (omega arith)
laid_from lo (p ∷ ps) zero d h lt = h.0
laid_from lo (p ∷ ps) (suc k) d h lt = let f = laid_from (last_path p.bucket + 1) ps k d h.2 (omega (arith, lt)) in let l = h.0 in let o = first-last p.bucket in omega (arith, f, l, o)

pub laid_drop : (lo : ℕ) (ps : List Piece) (k : ℕ) (d : Piece) → IsLaid lo ps → k < length ps → IsLaid (last_path (get_or ps k d).bucket + 1) (drop (suc k) ps)
laid_drop lo [] k d h lt = absurd (omega arith)
laid_drop lo (p ∷ ps) zero d h lt = h.2
laid_drop lo (p ∷ ps) (suc k) d h lt = laid_drop (last_path p.bucket + 1) ps k d h.2 (omega (arith, lt))

-- the ends of runs rise, and so do their beginnings
rises : (lo : ℕ) (ps : List Piece) (i j : ℕ) (d : Piece) → IsLaid lo ps → i ≤ j → j < length ps → (first_path (get_or ps i d).bucket ≤ first_path (get_or ps j d).bucket) × (last_path (get_or ps i d).bucket ≤ last_path (get_or ps j d).bucket)
rises lo [] i j d h le lt = absurd (omega arith)
rises lo (p ∷ ps) zero zero d h le lt = ((omega arith), (omega arith))
rises lo (p ∷ ps) zero (suc j) d h le lt =
    let f = laid_from (last_path p.bucket + 1) ps j d h.2 (omega (arith, lt)) in
    let o = first-last p.bucket in
    let q = first-last (get_or ps j d).bucket in
    ((omega (arith, f, o)), (omega (arith, f, q)))
rises lo (p ∷ ps) (suc i) zero d h le lt = absurd (omega arith)
rises lo (p ∷ ps) (suc i) (suc j) d h le lt = rises (last_path p.bucket + 1) ps i j d h.2 (omega (arith, le)) (omega (arith, lt))

pub laid_firsts : (ps : List Piece) → IsLaid 0 ps → IsNonDecreasingBy (λ p. first_path p.bucket) ps
laid_firsts ps h i j d le lt = (rises 0 ps i j d h le lt).0

pub laid_lasts : (ps : List Piece) → IsLaid 0 ps → IsNonDecreasingBy (λ p. last_path p.bucket) ps
laid_lasts ps h i j d le lt = (rises 0 ps i j d h le lt).1

-- ---- tests of parts of a list
pub none_take : (test : Piece → Bool) (ps : List Piece) (n : ℕ) → ((k : ℕ) (d : Piece) → k < n → k < length ps → test (get_or ps k d) ≡ false) → list_any test (take n ps) ≡ false
none_take test [] zero h = refl
none_take test [] (suc n) h = refl
none_take test (p ∷ ps) zero h = refl
none_take test (p ∷ ps) (suc n) h = ap₂ (λ x y. x || y) (h 0 p (omega arith) (omega arith)) (none_take test ps n (λ k d l m. h (suc k) d (omega (arith, l)) (omega (arith, m))))

pub none_drop : (test : Piece → Bool) (ps : List Piece) (n : ℕ) → ((k : ℕ) (d : Piece) → n ≤ k → k < length ps → test (get_or ps k d) ≡ false) → list_any test (drop n ps) ≡ false
none_drop test [] zero h = refl
none_drop test [] (suc n) h = refl
none_drop test (p ∷ ps) zero h = ap₂ (λ x y. x || y) (h 0 p (omega arith) (omega arith)) (none_drop test ps 0 (λ k d l m. h (suc k) d (omega arith) (omega (arith, m))))
none_drop test (p ∷ ps) (suc n) h = none_drop test ps n (λ k d l m. h (suc k) d (omega (arith, l)) (omega (arith, m)))

pub none_sub : (test more : Piece → Bool) → ((p : Piece) → more p ≡ false → test p ≡ false) → (ps : List Piece) → list_any more ps ≡ false → list_any test ps ≡ false
none_sub test more sub [] h = refl
none_sub test more sub (p ∷ ps) h = let parts = or_false (more p) _ h in ap₂ (λ x y. x || y) (sub p parts.0) (none_sub test more sub ps parts.1)

pub any-parts : (test : Piece → Bool) (ps : List Piece) (k : ℕ) (d : Piece) → k < length ps → list_any test (take k ps) ≡ false → list_any test (drop (suc k) ps) ≡ false → list_any test ps ≡ test (get_or ps k d)
any-parts test [] k d lt h g = absurd (omega arith)
any-parts test (p ∷ ps) zero d lt h g = ap (λ t. test p || t) g ∙ right (test p)
  where
    right : (x : Bool) → x || false ≡ x
    right true = refl
    right false = refl
any-parts test (p ∷ ps) (suc k) d lt h g = let parts = or_false (test p) _ h in ap₂ (λ x y. x || y) parts.0 (any-parts test ps k d (omega (arith, lt)) parts.1 g)

pub none-whole : (test : Piece → Bool) (ps : List Piece) (k : ℕ) → list_any test (take k ps) ≡ false → list_any test (drop k ps) ≡ false → list_any test ps ≡ false
none-whole test [] k h g = refl
none-whole test (p ∷ ps) zero h g = g
none-whole test (p ∷ ps) (suc k) h g = let parts = or_false (test p) _ h in ap₂ (λ x y. x || y) parts.0 (none-whole test ps k parts.1 g)

module _ (laws : AreRuns) where
  -- ---- a run
  pub IsRun-found : (b : Low) (ps : List Piece) (i j : ℕ) → IsBucket b → IsLaid 0 ps → i ≤ length ps → j ≤ length ps
      → AllWithin (λ p. last_path p.bucket < first_path b) ps 0 i → AllWithin (λ p. first_path b ≤ last_path p.bucket) ps i (length ps)
      → AllWithin (λ p. first_path p.bucket ≤ last_path b) ps 0 j → AllWithin (λ p. last_path b < first_path p.bucket) ps j (length ps) → IsRun b ps i j
  IsRun-found b ps i j vb h li lj below low high past = record {
    rising = by_le (nat_le i j) refl;
    within = lj;
    before = none_take (does_meet b) ps i (λ k d l m. apart-runs laws (get_or ps k d).bucket b (laid_bucket 0 ps k d h m) vb (below k d (omega arith) l));
    after = none_drop (does_meet b) ps j (λ k d l m. meets-sym (get_or ps k d).bucket b ∙ apart-runs laws b (get_or ps k d).bucket vb (laid_bucket 0 ps k d h m) (past k d l m));
    inside = λ k d l m. overlap-meets laws (get_or ps k d).bucket b (laid_bucket 0 ps k d h (omega (arith, m, lj))) vb (high k d (omega arith) m) (low k d l (omega (arith, m, lj)));
  }
    where
      crossed : (d : Piece) → j < i → ⊥
      crossed d lt =
          let x = below j d (omega arith) lt in
          let y = past j d (omega arith) (omega (arith, lt, li)) in
          let o = first-last (get_or ps j d).bucket in
          let q = first-last b in
          omega (arith, x, y, o, q)

      by_le : (t : Bool) → nat_le i j ≡ t → i ≤ j
      by_le true e = le-true _ _ e
      by_le false e = absurd (crossed (record { bucket = b; serial = 0; ready = false }) (le-false _ _ e))
