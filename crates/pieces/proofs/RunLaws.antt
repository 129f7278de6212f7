-- Runs of buckets: two buckets meet exactly where their runs do.
use Rattle.std.proofs.Common.{◌≡◌, ◌&&◌, ◌||◌, ℕ, zero, suc, ◌+◌, ◌-◌, ◌<◌, ◌≤◌, ◌%◌, ◌^◌, Bool, true, false, refl, sym, ap, ap₂, ◌∙◌, subst, arith, nat_le, ◌⊎◌, inl, inr, eq-eqb, eqb-true, add-one, pow-suc}
use Rattle.std.proofs.lemmas.Bool.Decides.{nat_tests}
use Rattle.std.proofs.Math.Nat.{mod-eq_of_lt}
use Rattle.std.proofs.Math.Pow.{pow_mono}
use Rattle.bucket_ids.specs.Buckets.{Low, IsBucket, IsIn, covers, first_child, second_child}
use Rattle.bucket_ids.specs.Paths.{path, first_path, last_path}
use Rattle.pieces.specs.Pieces.{meets}
use Rattle.pieces.specs.Runs.{AreRuns}
use Rattle.proof_basics.proofs.Tests.{both}
use Rattle.pieces.proofs.PieceLaws.{bucket-same}

pub le-true : (a b : ℕ) → nat_le a b ≡ true → a ≤ b
le-true a b h = grind (arith, nat_tests)

pub le-false : (a b : ℕ) → nat_le a b ≡ false → b < a
le-false a b h = grind (arith, nat_tests)

pub true-le : (a b : ℕ) → a ≤ b → nat_le a b ≡ true
true-le a b h = grind (arith, nat_tests)

pub first-last : (b : Low) → first_path b ≤ last_path b
first-last b = omega arith

-- a bucket's low bits are a key
pub low-key : (b : Low) → IsBucket b → b.low < 2 ^ 58
low-key b valid = let m = pow_mono valid.most in omega (arith, valid.fits, m)

pub covers-bits : (a b : Low) → covers a b ≡ true → a.bits ≤ b.bits
covers-bits a b h = le-true _ _ (both _ _ h).0

pub covers-low : (a b : Low) → covers a b ≡ true → b.low % 2 ^ a.bits ≡ a.low
covers-low a b h = eqb-true _ _ (both (nat_le a.bits b.bits) _ h).1

pub make-covers : (a b : Low) → a.bits ≤ b.bits → b.low % 2 ^ a.bits ≡ a.low → covers a b ≡ true
make-covers a b le low = ap₂ (λ x y. x && y) (true-le _ _ le) (eq-eqb _ _ low)

pub first-bucket : (a : Low) → IsBucket a → a.bits < 58 → IsBucket (first_child a)
first-bucket a v lt = record { some = (omega arith); most = (omega (arith, lt)); fits = rw (add-one, pow-suc 2 a.bits) (omega (arith, v.fits)) }

pub second-bucket : (a : Low) → IsBucket a → a.bits < 58 → IsBucket (second_child a)
second-bucket a v lt = record { some = (omega arith); most = (omega (arith, lt)); fits = rw (add-one, pow-suc 2 a.bits) (omega (arith, v.fits)) }

module _ (laws : AreRuns) where
  pub covers-first : (a b : Low) → IsBucket a → IsBucket b → covers a b ≡ true → (first_path a ≤ first_path b) × (first_path b ≤ last_path a)
  covers-first a b va vb h = (laws.run a b.low va (low-key b vb)).0 (low-key b vb, covers-low a b h)

  -- a key of a bucket lies in one of its children
  pub next-child : (a : Low) (key : ℕ) → IsBucket a → a.bits < 58 → key < 2 ^ 58 → IsIn a key → IsIn (first_child a) key ⊎ IsIn (second_child a) key
  next-child a key va lt small h = by_le (nat_le (path key) (last_path (first_child a))) refl
    where
      place : (first_path a ≤ path key) × (path key ≤ last_path a)
      place = (laws.run a key va small).0 h

      by_le : (t : Bool) → nat_le (path key) (last_path (first_child a)) ≡ t → IsIn (first_child a) key ⊎ IsIn (second_child a) key
      by_le true e = inl ((laws.run (first_child a) key (first-bucket a va lt) small).1 (place.0, le-true _ _ e))
      by_le false e =
          let past = le-false _ _ e in
          let seam = laws.seam a va lt in
          let end = laws.last a va lt in
          inr ((laws.run (second_child a) key (second-bucket a va lt) small).1 (omega (arith, past, seam), omega (arith, place.1, end)))

  -- a bucket that covers a longer one has a child that does
  pub child-covers : (a b : Low) → IsBucket a → IsBucket b → a.bits < b.bits → covers a b ≡ true → (covers (first_child a) b ≡ true) ⊎ (covers (second_child a) b ≡ true)
  child-covers a b va vb lt h = by_child (next-child a b.low va (let m = vb.most in omega (arith, lt, m)) (low-key b vb) (low-key b vb, covers-low a b h))
    where
      by_child : IsIn (first_child a) b.low ⊎ IsIn (second_child a) b.low → (covers (first_child a) b ≡ true) ⊎ (covers (second_child a) b ≡ true)
      by_child (inl e) = inl (make-covers (first_child a) b (omega (arith, lt)) e.1)
      by_child (inr e) = inr (make-covers (second_child a) b (omega (arith, lt)) e.1)

  covers-last_by : (k : ℕ) (a b : Low) → b.bits ≡ a.bits + k → IsBucket a → IsBucket b → covers a b ≡ true → last_path b ≤ last_path a
  covers-last_by zero a b e va vb h = subst (λ x. last_path x ≤ last_path a) same (omega arith)
    where
      low : b.low ≡ a.low
      low = sym (mod-eq_of_lt vb.fits) ∙ ap (λ k. b.low % 2 ^ k) (omega (arith, e)) ∙ covers-low a b h

      same : a ≡ b
      same = bucket-same a b (ap₂ (λ x y. x && y) (eq-eqb _ _ (omega (arith, e))) (eq-eqb _ _ (sym low)))
  covers-last_by (suc k) a b e va vb h = by_child (child-covers a b va vb (omega (arith, e)) h) (covers-last_by k (first_child a) b (omega (arith, e)) (first-bucket a va less) vb) (covers-last_by k (second_child a) b (omega (arith, e)) (second-bucket a va less) vb)
    where
      less : a.bits < 58
      less = let m = vb.most in omega (arith, e)

      by_child : (covers (first_child a) b ≡ true) ⊎ (covers (second_child a) b ≡ true) → (covers (first_child a) b ≡ true → last_path b ≤ last_path (first_child a)) → (covers (second_child a) b ≡ true → last_path b ≤ last_path (second_child a)) → last_path b ≤ last_path a
      by_child (inl c) f g = let low = f c in let seam = laws.seam a va less in let end = laws.last a va less in let order = first-last (second_child a) in omega (arith, low, seam, end, order)
      by_child (inr c) f g = let low = g c in let end = laws.last a va less in omega (arith, low, end)

  pub covers-last : (a b : Low) → IsBucket a → IsBucket b → covers a b ≡ true → last_path b ≤ last_path a
  covers-last a b va vb h = let le = covers-bits a b h in covers-last_by (b.bits - a.bits) a b (omega (arith, le)) va vb h

  -- ---- meeting
  pub apart-runs : (a b : Low) → IsBucket a → IsBucket b → last_path a < first_path b → meets a b ≡ false
  apart-runs a b va vb lt = by_tests (covers a b) (covers b a) refl refl
    where
      by_tests : (x y : Bool) → covers a b ≡ x → covers b a ≡ y → x || y ≡ false
      by_tests true y e f = let w = covers-first a b va vb e in absurd (omega (arith, lt, w.1))
      by_tests false true e f = let w = covers-first b a vb va f in absurd (let o = first-last a in omega (arith, lt, w.0, o))
      by_tests false false e f = refl

  -- runs that overlap are those of buckets of which the shorter covers
  overlap-covers : (a b : Low) → IsBucket a → IsBucket b → a.bits ≤ b.bits → first_path a ≤ last_path b → first_path b ≤ last_path a → covers a b ≡ true
  overlap-covers a b va vb le ab ba = by_le (nat_le (first_path a) (first_path b)) refl
    where
      same_low : b.low ≡ a.low → first_path b < first_path a → ⊥
      same_low e lt = let p : first_path b ≡ first_path a = ap first_of e in omega (arith, p, lt)
        where
          first_of : ℕ → ℕ
          first_of x = first_path (record { bits = 0; low = x })

      by_le : (t : Bool) → nat_le (first_path a) (first_path b) ≡ t → covers a b ≡ true
      by_le true e = make-covers a b le ((laws.run a b.low va (low-key b vb)).1 (le-true _ _ e, ba)).1
      by_le false e =
          let lt : first_path b < first_path a = le-false _ _ e in
          let inb : a.low % 2 ^ b.bits ≡ b.low = ((laws.run b a.low vb (low-key a va)).1 ((omega (arith, lt)), ab)).1 in
          let m = pow_mono le in
          let small : a.low < 2 ^ b.bits = (let f = va.fits in omega (arith, m, f)) in
          absurd (same_low (sym inb ∙ mod-eq_of_lt small) lt)

  pub overlap-meets : (a b : Low) → IsBucket a → IsBucket b → first_path a ≤ last_path b → first_path b ≤ last_path a → meets a b ≡ true
  overlap-meets a b va vb ab ba = by_le (nat_le a.bits b.bits) refl
    where
      right : (x : Bool) → x || true ≡ true
      right true = refl
      right false = refl

      by_le : (t : Bool) → nat_le a.bits b.bits ≡ t → meets a b ≡ true
      by_le true e = ap (λ t. t || covers b a) (overlap-covers a b va vb (le-true _ _ e) ab ba)
      by_le false e = ap (λ t. covers a b || t) (overlap-covers b a vb va (let l = le-false _ _ e in omega (arith, l)) ba ab) ∙ right (covers a b)

  pub meets-first : (a b : Low) → IsBucket a → IsBucket b → meets a b ≡ true → first_path a ≤ last_path b
  meets-first a b va vb h = by_le (nat_le (first_path a) (last_path b)) refl
    where
      swap : (x y : Bool) → x || y ≡ true → y || x ≡ false → ⊥
      swap true true e f = cc
      swap true false e f = cc
      swap false true e f = cc
      swap false false e f = cc

      by_le : (t : Bool) → nat_le (first_path a) (last_path b) ≡ t → first_path a ≤ last_path b
      by_le true e = le-true _ _ e
      by_le false e = absurd (swap (covers a b) (covers b a) h (apart-runs b a vb va (le-false _ _ e)))

  pub not_meets-runs : (a b : Low) → IsBucket a → IsBucket b → meets a b ≡ false → first_path a ≤ last_path b → last_path a < first_path b
  not_meets-runs a b va vb h le = by_le (nat_le (first_path b) (last_path a)) refl
    where
      by_le : (t : Bool) → nat_le (first_path b) (last_path a) ≡ t → last_path a < first_path b
      by_le true e = cc (sym h ∙ overlap-meets a b va vb le (le-true _ _ e))
      by_le false e = le-false _ _ e
