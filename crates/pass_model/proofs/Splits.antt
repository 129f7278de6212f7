-- A piece is split until a bucket is a piece.
use Rattle.std.proofs.Common.{◌≡◌, ◌||◌, ℕ, ◌+◌, ◌-◌, ◌≤◌, Bool, true, false, cond, List, [], ◌∷◌, ◌++◌, refl, ap₂, arith, ◌⊎◌, inl, inr}
use Rattle.std.specs.List.{list_any}
use Rattle.bucket_ids.specs.Buckets.{Low, IsBucket, has_key, covers}
use Rattle.pieces.specs.declared.piece.Piece.{Piece}
use Rattle.pieces.specs.Pieces.{meets, parts, split_at, does_meet, is_over, has_key_of}
use Rattle.proof_basics.proofs.Tests.{or_false, or_true, or_left, or_right, clash}
use Rattle.pass_model.specs.Shapes.{IsApart}
use Rattle.pass_model.proofs.Tests.{any-left, any-right, none-append}
use Rattle.pass_model.proofs.Geometry.{covers-bits}
use Rattle.pass_model.proofs.Parts.{parts-none, parts-exact, parts-over, parts-key, parts-inside, parts-apart, IsApart-append}

span : (p to : Low) → covers p to ≡ true → p.bits + (to.bits - p.bits) ≡ to.bits
span p to h = let x = covers-bits p to h in omega arith

room : (p to : Low) → IsBucket to → covers p to ≡ true → p.bits + (to.bits - p.bits) ≤ 58
room p to ok h = let x = span p to h in let m = ok.most in omega arith

module _ (to : Low) (s : ℕ) (okto : IsBucket to) where
  abbrev pub cut : Piece → List Piece → List Piece
  cut p ps = parts (to.bits - p.bucket.bits) p.bucket to s p.ready ++ ps

  pub split-none : (b : Low) (ps : List Piece) → IsApart ps → list_any (does_meet b) ps ≡ false → list_any (does_meet b) (split_at to s ps) ≡ false
  split-none b [] a h = refl
  split-none b (p ∷ ps) a h = let o = or_false (meets p.bucket b) (list_any (does_meet b) ps) h in by_test (covers p.bucket to) refl o.0 o.1 (split-none b ps a.2 o.1)
    where
      by_test : (t : Bool) → covers p.bucket to ≡ t → meets p.bucket b ≡ false → list_any (does_meet b) ps ≡ false → list_any (does_meet b) (split_at to s ps) ≡ false → list_any (does_meet b) (cond t (cut p ps) (p ∷ split_at to s ps)) ≡ false
      by_test true e here rest ih = none-append (does_meet b) (parts (to.bits - p.bucket.bits) p.bucket to s p.ready) ps (parts-none s p.ready (to.bits - p.bucket.bits) p.bucket to b a.1 (room p.bucket to okto e) here) rest
      by_test false e here rest ih = ap₂ (λ x y. x || y) here ih

  pub split-exact : (T : Piece → Bool) → ((r : Bool) → T (record { bucket = to; serial = s; ready = r }) ≡ true) → (ps : List Piece) → IsApart ps → list_any (is_over to) ps ≡ true → list_any T (split_at to s ps) ≡ true
  split-exact T is [] a h = cc
  split-exact T is (p ∷ ps) a h = by_test (covers p.bucket to) refl (or_true (covers p.bucket to) (list_any (is_over to) ps) h) (λ x. split-exact T is ps a.2 x)
    where
      by_test : (t : Bool) → covers p.bucket to ≡ t → (covers p.bucket to ≡ true) ⊎ (list_any (is_over to) ps ≡ true) → (list_any (is_over to) ps ≡ true → list_any T (split_at to s ps) ≡ true) → list_any T (cond t (cut p ps) (p ∷ split_at to s ps)) ≡ true
      by_test true e o ih = any-left T (parts (to.bits - p.bucket.bits) p.bucket to s p.ready) ps (parts-exact s p.ready T (to.bits - p.bucket.bits) p.bucket to a.1 okto (span p.bucket to e) e (is p.ready))
      by_test false e o ih = elim o [ inl x ↦ clash x e | inr x ↦ or_right (T p) (list_any T (split_at to s ps)) (ih x) ]

  -- pieces that don't cover the bucket stay
  pub split-stay : (T : Piece → Bool) → ((p : Piece) → T p ≡ true → covers p.bucket to ≡ false) → (ps : List Piece) → list_any T ps ≡ true → list_any T (split_at to s ps) ≡ true
  split-stay T outside [] h = cc
  split-stay T outside (p ∷ ps) h = by_test (covers p.bucket to) refl (or_true (T p) (list_any T ps) h) (λ x. split-stay T outside ps x)
    where
      by_test : (t : Bool) → covers p.bucket to ≡ t → (T p ≡ true) ⊎ (list_any T ps ≡ true) → (list_any T ps ≡ true → list_any T (split_at to s ps) ≡ true) → list_any T (cond t (cut p ps) (p ∷ split_at to s ps)) ≡ true
      by_test true e (inl here) ih = clash e (outside p here)
      by_test true e (inr later) ih = any-right T (parts (to.bits - p.bucket.bits) p.bucket to s p.ready) ps later
      by_test false e (inl here) ih = or_left (T p) (list_any T (split_at to s ps)) here
      by_test false e (inr later) ih = or_right (T p) (list_any T (split_at to s ps)) (ih later)

  pub split-over : (b : Low) → IsBucket b → meets b to ≡ false → (ps : List Piece) → IsApart ps → list_any (is_over b) ps ≡ true → list_any (is_over b) (split_at to s ps) ≡ true
  split-over b okb apart [] a h = cc
  split-over b okb apart (p ∷ ps) a h = by_test (covers p.bucket to) refl (or_true (covers p.bucket b) (list_any (is_over b) ps) h) (λ x. split-over b okb apart ps a.2 x)
    where
      by_test : (t : Bool) → covers p.bucket to ≡ t → (covers p.bucket b ≡ true) ⊎ (list_any (is_over b) ps ≡ true) → (list_any (is_over b) ps ≡ true → list_any (is_over b) (split_at to s ps) ≡ true) → list_any (is_over b) (cond t (cut p ps) (p ∷ split_at to s ps)) ≡ true
      by_test true e (inl here) ih = any-left (is_over b) (parts (to.bits - p.bucket.bits) p.bucket to s p.ready) ps (parts-over s p.ready (to.bits - p.bucket.bits) p.bucket to b a.1 okto okb (span p.bucket to e) e here apart)
      by_test true e (inr later) ih = any-right (is_over b) (parts (to.bits - p.bucket.bits) p.bucket to s p.ready) ps later
      by_test false e (inl here) ih = or_left (covers p.bucket b) (list_any (is_over b) (split_at to s ps)) here
      by_test false e (inr later) ih = or_right (covers p.bucket b) (list_any (is_over b) (split_at to s ps)) (ih later)

  pub split-key : (key : ℕ) (ps : List Piece) → list_any (has_key_of key) ps ≡ true → list_any (has_key_of key) (split_at to s ps) ≡ true
  split-key key [] h = cc
  split-key key (p ∷ ps) h = by_test (covers p.bucket to) (or_true (has_key p.bucket key) (list_any (has_key_of key) ps) h) (λ x. split-key key ps x)
    where
      by_test : (t : Bool) → (has_key p.bucket key ≡ true) ⊎ (list_any (has_key_of key) ps ≡ true) → (list_any (has_key_of key) ps ≡ true → list_any (has_key_of key) (split_at to s ps) ≡ true) → list_any (has_key_of key) (cond t (cut p ps) (p ∷ split_at to s ps)) ≡ true
      by_test true (inl here) ih = any-left (has_key_of key) (parts (to.bits - p.bucket.bits) p.bucket to s p.ready) ps (parts-key s p.ready key (to.bits - p.bucket.bits) p.bucket to here)
      by_test true (inr later) ih = any-right (has_key_of key) (parts (to.bits - p.bucket.bits) p.bucket to s p.ready) ps later
      by_test false (inl here) ih = or_left (has_key p.bucket key) (list_any (has_key_of key) (split_at to s ps)) here
      by_test false (inr later) ih = or_right (has_key p.bucket key) (list_any (has_key_of key) (split_at to s ps)) (ih later)

  pub split-apart : (ps : List Piece) → IsApart ps → IsApart (split_at to s ps)
  split-apart [] a = tt
  split-apart (p ∷ ps) a = by_test (covers p.bucket to) refl (split-none p.bucket ps a.2 a.0) (split-apart ps a.2)
    where
      by_test : (t : Bool) → covers p.bucket to ≡ t → list_any (does_meet p.bucket) (split_at to s ps) ≡ false → IsApart (split_at to s ps) → IsApart (cond t (cut p ps) (p ∷ split_at to s ps))
      by_test true e none ih = let r = room p.bucket to okto e in
          IsApart-append (parts (to.bits - p.bucket.bits) p.bucket to s p.ready) ps (parts-apart s p.ready (to.bits - p.bucket.bits) p.bucket to a.1 r) a.2 p.bucket a.1
          (λ b h. parts-inside s p.ready (to.bits - p.bucket.bits) p.bucket to b a.1 r h) a.0
      by_test false e none ih = (none, a.1, ih)
