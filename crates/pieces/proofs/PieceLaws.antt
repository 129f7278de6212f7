-- Buckets, pieces and tests of them.
use Rattle.std.proofs.Common.{◌≡◌, ◌==◌, ◌&&◌, ◌||◌, ℕ, zero, suc, ◌-◌, ◌<◌, ◌≤◌, Bool, true, false, cond, List, [], ◌∷◌, ◌++◌, take, drop, refl, sym, ap, ap₂, ◌∙◌, arith, get_or, set, length, nat_le, eqb, eq-eqb, eqb-true}
use Rattle.std.specs.List.{list_any}
use Rattle.std.proofs.lemmas.Bool.Decides.{nat_tests}
use Rattle.std.proofs.Math.Nat.{mod-eq_of_lt}
use Rattle.bucket_ids.specs.Buckets.{Low, IsBucket, covers}
use Rattle.bucket_ids.specs.Paths.{first_path}
use Rattle.pieces.specs.declared.piece.Piece.{Piece}
use Rattle.pieces.specs.Pieces.{same_bucket, meets, does_meet, is_over, is_inside, with_serial, split_at, with_piece, parts, apply_at, join_at}
use Rattle.pieces.specs.Places.{IsFirstOver, is_behind}
use Rattle.proof_basics.proofs.Tests.{or_false, both}

or_swap : (a b : Bool) → a || b ≡ b || a
or_swap true true = refl
or_swap true false = refl
or_swap false true = refl
or_swap false false = refl

pub meets-sym : (a b : Low) → meets a b ≡ meets b a
meets-sym a b = or_swap (covers a b) (covers b a)

pub bucket-same : (a b : Low) → same_bucket a b ≡ true → a ≡ b
bucket-same a b h = let both = both (eqb a.bits b.bits) (eqb a.low b.low) h in make (eqb-true _ _ both.0) (eqb-true _ _ both.1)
  where
    make : a.bits ≡ b.bits → a.low ≡ b.low → a ≡ b
    make p q = λ i. record { bits = p i; low = q i }

pub same-refl : (b : Low) → same_bucket b b ≡ true
same-refl b = rw (eq-eqb b.bits b.bits refl, eq-eqb b.low b.low refl) refl

le-refl : (n : ℕ) → nat_le n n ≡ true
le-refl n = grind (arith, nat_tests)

pub covers-refl : (b : Low) → IsBucket b → covers b b ≡ true
covers-refl b valid = let m = mod-eq_of_lt valid.fits in ap₂ (λ x y. x && (y == b.low)) (le-refl b.bits) m ∙ eq-eqb b.low b.low refl

pub meets-refl : (b : Low) → IsBucket b → meets b b ≡ true
meets-refl b valid = ap (λ t. t || covers b b) (covers-refl b valid)

-- a bucket that is a piece gets a serial
pub split_at-exact : (b : Low) (s : ℕ) (ps : List Piece) (at : ℕ) (d q : Piece) → at < length ps → list_any (is_over b) (take at ps) ≡ false → is_over b (get_or ps at d) ≡ true
    → (get_or ps at d).bucket ≡ b → q ≡ with_serial s (get_or ps at d) → split_at b s ps ≡ set ps at q
split_at-exact b s [] at d q within first over exact new = absurd (omega arith)
split_at-exact b s (p ∷ ps) zero d q within first over exact new =
    ap (λ t. cond t (parts (b.bits - p.bucket.bits) p.bucket b s p.ready ++ ps) (p ∷ split_at b s ps)) over
    ∙ ap (λ k. parts k p.bucket b s p.ready ++ ps) (let e : b.bits - p.bucket.bits ≡ 0 = let e = ap (λ (x : Low). x.bits) exact in omega arith in e)
    ∙ ap (λ (x : Piece). x ∷ ps) (exactly ∙ sym new)
  where
    exactly : ◌≡◌ {A = Piece} (record { bucket = p.bucket; serial = s; ready = p.ready }) (with_serial s p)
    exactly = refl
split_at-exact b s (p ∷ ps) (suc at) d q within first over exact new =
    let parts_of = or_false (covers p.bucket b) (list_any (is_over b) (take at ps)) first in
    ap (λ t. cond t (parts (b.bits - p.bucket.bits) p.bucket b s p.ready ++ ps) (p ∷ split_at b s ps)) parts_of.0
    ∙ ap (λ xs. p ∷ xs) (split_at-exact b s ps at d q (omega (arith, within)) parts_of.1 over exact new)

-- ---- one piece more
pub with_piece-at : (q : Piece) (ps : List Piece) (at : ℕ) → at ≤ length ps → list_any (is_behind (first_path q.bucket)) (take at ps) ≡ false
    → (at < length ps → is_behind (first_path q.bucket) (get_or ps at q) ≡ true) → with_piece q ps ≡ take at ps ++ q ∷ drop at ps
with_piece-at q [] zero within before there = refl
with_piece-at q [] (suc at) within before there = absurd (omega arith)
with_piece-at q (p ∷ ps) zero within before there = ap (λ t. cond t (q ∷ p ∷ ps) (p ∷ with_piece q ps)) (there (omega arith))
with_piece-at q (p ∷ ps) (suc at) within before there =
    let parts_of = or_false (is_behind (first_path q.bucket) p) (list_any (is_behind (first_path q.bucket)) (take at ps)) before in
    ap (λ t. cond t (q ∷ p ∷ ps) (p ∷ with_piece q ps)) parts_of.0
    ∙ ap (λ xs. p ∷ xs) (with_piece-at q ps at (omega (arith, within)) parts_of.1 (λ h. there (omega (arith, h))))

-- no piece covers a bucket or lies inside it
pub no_meeting : (b : Low) (ps : List Piece) → list_any (is_over b) ps ≡ false → list_any (is_inside b) ps ≡ false → list_any (does_meet b) ps ≡ false
no_meeting b [] o i = refl
no_meeting b (p ∷ ps) o i =
    let over = or_false (covers p.bucket b) _ o in
    let inside = or_false (covers b p.bucket) _ i in
    ap₂ (λ x y. x || y) (ap₂ (λ x y. x || y) over.0 inside.0) (no_meeting b ps over.1 inside.1)

-- ---- one piece less
pub any_at : (test : Piece → Bool) (ps : List Piece) (at : ℕ) (d : Piece) → at < length ps → list_any test ps ≡ false → test (get_or ps at d) ≡ false
any_at test [] at d within h = absurd (omega arith)
any_at test (p ∷ ps) zero d within h = (or_false (test p) _ h).0
any_at test (p ∷ ps) (suc at) d within h = any_at test ps at d (omega (arith, within)) (or_false (test p) _ h).1

pub any_found : (test : Piece → Bool) (ps : List Piece) (at : ℕ) (d : Piece) → at < length ps → test (get_or ps at d) ≡ true → list_any test ps ≡ true
any_found test [] at d within h = absurd (omega arith)
any_found test (p ∷ ps) zero d within h = ap (λ t. t || list_any test ps) h
any_found test (p ∷ ps) (suc at) d within h = ap (λ t. test p || t) (any_found test ps at d (omega (arith, within)) h) ∙ or_swap (test p) true

-- a bucket that is a piece stays one, with a serial
pub apply_at-exact : (b : Low) (s : ℕ) (ps : List Piece) (at : ℕ) (x : Piece) → IsFirstOver b ps at → x ≡ get_or ps at x → x.bucket ≡ b → set ps at (with_serial s x) ≡ apply_at b s ps
apply_at-exact b s ps at x first is exact =
    let over = any_found (is_over b) ps at x first.within (first.over x) in
    sym (ap (λ t. cond t (split_at b s ps) (cond (list_any (is_inside b) ps) (join_at b s ps) (with_piece (record { bucket = b; serial = s; ready = false }) ps))) over
    ∙ split_at-exact b s ps at x (with_serial s x) first.within first.first (first.over x) (ap (λ (y : Piece). y.bucket) (sym is) ∙ exact) (ap (with_serial s) is))

pub apply_at-new : (b : Low) (s : ℕ) (ps : List Piece) → list_any (is_over b) ps ≡ false → list_any (is_inside b) ps ≡ false → apply_at b s ps ≡ with_piece (record { bucket = b; serial = s; ready = false }) ps
apply_at-new b s ps o i = ap₂ (λ x y. cond x (split_at b s ps) (cond y (join_at b s ps) (with_piece (record { bucket = b; serial = s; ready = false }) ps))) o i
