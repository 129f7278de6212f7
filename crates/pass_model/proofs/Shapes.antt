-- What an answer shows of a bucket is how the node's pieces stand to it.
use Rattle.std.proofs.Common.{◌≡◌, ◌≤◌, ◌==◌, ◌&&◌, ◌||◌, ℕ, Bool, true, false, cond, nat_lt, List, [], ◌∷◌, filter, Option, Some, None, refl, sym, ap, ap₂, ◌∙◌, subst, ◌⊎◌, inl, inr, arith}
use Rattle.std.specs.List.{list_any, find}
use Rattle.std.proofs.lemmas.Bool.{eqb-true}
use Rattle.std.proofs.lemmas.Bool.Decides.{nat_tests}
use Rattle.bucket_ids.specs.Buckets.{Low, IsBucket, covers}
use Rattle.pieces.specs.declared.piece.Piece.{Piece}
use Rattle.pieces.specs.Pieces.{same_bucket, does_meet, is_piece, is_over, is_inside, is_exactly}
use Rattle.proof_basics.proofs.Tests.{both, or_false, or_true, or_left, or_right, and_true, is_false, clash, same-by}
use Rattle.pieces.proofs.PieceLaws.{bucket-same, same-refl}
use Rattle.lane_journals.specs.Meanings.{names}
use Rattle.pass_model.specs.Shapes.{Same, Over, Inside, IsApart, shape_beside, shape_by, shape_of}
use Rattle.proof_basics.proofs.Numbers.{same-nat}
use Rattle.proof_basics.proofs.Lists.{any-map, none-map}
use Rattle.pass_model.proofs.Geometry.{covers-bits, covers-same, meets-sym, meets-covers, meets-covered}
use Rattle.pass_model.proofs.Effects.{same-in}
use Rattle.pass_model.specs.Shown.{lies_over, lies_inside, serial_shown, shape_with, shape_shown}
use Rattle.pass_model.proofs.Named.{any-same}

module _ (b : Low) (ok : IsBucket b) where
  -- ---- a piece

  exact-meets : (p : Piece) → is_exactly b p ≡ true → does_meet b p ≡ true
  exact-meets p h = meets-covered p.bucket b (same-in b p ok h)

  over-meets : (p : Piece) → lies_over b p ≡ true → does_meet b p ≡ true
  over-meets p h = meets-covers p.bucket b (both (nat_lt (p.bucket).bits b.bits) (covers p.bucket b) h).1

  inside-meets : (p : Piece) → lies_inside b p ≡ true → does_meet b p ≡ true
  inside-meets p h = meets-covered p.bucket b (both (nat_lt b.bits (p.bucket).bits) (covers b p.bucket) h).1

  over-strict : (p : Piece) → IsBucket p.bucket → is_exactly b p ≡ false → is_over b p ≡ true → lies_over b p ≡ true
  over-strict p okp other h =
      let le = covers-bits p.bucket b h in
      and_true (nat_lt (p.bucket).bits b.bits) (covers p.bucket b)
      (by_test (nat_lt (p.bucket).bits b.bits) refl le) h
    where
      by_test : (t : Bool) → nat_lt (p.bucket).bits b.bits ≡ t → (p.bucket).bits ≤ b.bits → t ≡ true
      by_test true e le = refl
      by_test false e le = clash (covers-same p.bucket b okp ok h (grind (arith, nat_tests))) other

  same-turned : (p : Piece) → same_bucket b p.bucket ≡ true → is_exactly b p ≡ true
  same-turned p h = subst (λ (c : Low). same_bucket p.bucket c ≡ true) (sym (bucket-same b p.bucket h)) (same-refl p.bucket)

  inside-strict : (p : Piece) → IsBucket p.bucket → is_exactly b p ≡ false → is_inside b p ≡ true → lies_inside b p ≡ true
  inside-strict p okp other h =
      let le = covers-bits b p.bucket h in
      and_true (nat_lt b.bits (p.bucket).bits) (covers b p.bucket)
      (by_test (nat_lt b.bits (p.bucket).bits) refl le) h
    where
      by_test : (t : Bool) → nat_lt b.bits (p.bucket).bits ≡ t → b.bits ≤ (p.bucket).bits → t ≡ true
      by_test true e le = refl
      by_test false e le = clash (same-turned p (covers-same b p.bucket ok okp h (grind (arith, nat_tests)))) other

  -- ---- where no piece is the bucket

  over-all : (ps : List Piece) → IsApart ps → list_any (is_exactly b) ps ≡ false → list_any (lies_over b) ps ≡ list_any (is_over b) ps
  over-all [] apart none = refl
  over-all (p ∷ ps) apart none = let o = or_false (is_exactly b p) (list_any (is_exactly b) ps) none in
      ap₂ (λ (x y : Bool). x || y)
      (same-by (lies_over b p) (is_over b p) (λ h. (both (nat_lt (p.bucket).bits b.bits) (covers p.bucket b) h).1) (over-strict p apart.1 o.0))
      (over-all ps apart.2 o.1)

  inside-all : (ps : List Piece) → IsApart ps → list_any (is_exactly b) ps ≡ false → list_any (lies_inside b) ps ≡ list_any (is_inside b) ps
  inside-all [] apart none = refl
  inside-all (p ∷ ps) apart none = let o = or_false (is_exactly b p) (list_any (is_exactly b) ps) none in
      ap₂ (λ (x y : Bool). x || y)
      (same-by (lies_inside b p) (is_inside b p) (λ h. (both (nat_lt b.bits (p.bucket).bits) (covers b p.bucket) h).1) (inside-strict p apart.1 o.0))
      (inside-all ps apart.2 o.1)

  -- ---- the piece that is the bucket

  abbrev exact_at : ℕ → Piece → Bool
  exact_at s p = is_exactly b p && (p.serial == s)

  serial-none : (qs : List Piece) → list_any (is_exactly b) qs ≡ false → serial_shown b qs ≡ None
  serial-none [] h = refl
  serial-none (q ∷ qs) h = let o = or_false (is_exactly b q) (list_any (is_exactly b) qs) h in
      ap (λ (t : Bool). cond t (Some q.serial) (serial_shown b qs)) o.0 ∙ serial-none qs o.1

  record IsShown (qs : List Piece) : Type 0 where
    serial : ℕ
    is : serial_shown b qs ≡ Some serial
    any : list_any (exact_at serial) qs ≡ true

  serial-some : (qs : List Piece) → list_any (is_exactly b) qs ≡ true → IsShown qs
  serial-some [] h = cc
  serial-some (q ∷ qs) h = by_test (serial-some qs) (is_exactly b q) refl h
    where
      by_test : (list_any (is_exactly b) qs ≡ true → IsShown qs) → (t : Bool) → is_exactly b q ≡ t → (t || list_any (is_exactly b) qs) ≡ true → IsShown (q ∷ qs)
      by_test rest true e g = record {
        serial = q.serial;
        is = ap (λ (t : Bool). cond t (Some q.serial) (serial_shown b qs)) e;
        any = or_left (exact_at q.serial q) (list_any (exact_at q.serial) qs) (and_true (is_exactly b q) (q.serial == q.serial) e (same-nat q.serial));
      }
      by_test rest false e g = let x = rest g in record {
        serial = x.serial;
        is = ap (λ (t : Bool). cond t (Some q.serial) (serial_shown b qs)) e ∙ x.is;
        any = or_right (exact_at x.serial q) (list_any (exact_at x.serial) qs) x.any;
      }

  -- just one piece of a node is it
  exact-any : (s : ℕ) (ps : List Piece) → list_any (exact_at s) ps ≡ true → list_any (is_exactly b) ps ≡ true
  exact-any s [] h = cc
  exact-any s (p ∷ ps) h = elim (or_true (exact_at s p) (list_any (exact_at s) ps) h) [
    | inl here ↦ or_left (is_exactly b p) (list_any (is_exactly b) ps) (both (is_exactly b p) (p.serial == s) here).0
    | inr later ↦ or_right (is_exactly b p) (list_any (is_exactly b) ps) (exact-any s ps later)
  ]

  exact-meet : (p : Piece) (ps : List Piece) → is_exactly b p ≡ true → list_any (is_exactly b) ps ≡ true → list_any (does_meet p.bucket) ps ≡ true
  exact-meet p [] h e = cc
  exact-meet p (q ∷ ps) h e = elim (or_true (is_exactly b q) (list_any (is_exactly b) ps) e) [
    | inl here ↦ or_left (does_meet p.bucket q) (list_any (does_meet p.bucket) ps) (subst (λ (c : Low). does_meet c q ≡ true) (sym (bucket-same p.bucket b h)) (exact-meets q here))
    | inr later ↦ or_right (does_meet p.bucket q) (list_any (does_meet p.bucket) ps) (exact-meet p ps h later)
  ]

  record IsFound (ps : List Piece) : Type 0 where
    piece : Piece
    is : find (is_exactly b) ps ≡ Some piece
    only : (s : ℕ) → list_any (exact_at s) ps ≡ true → piece.serial ≡ s

  found : (ps : List Piece) → IsApart ps → list_any (is_exactly b) ps ≡ true → IsFound ps
  found [] apart h = cc
  found (p ∷ ps) apart h = by_test (found ps apart.2) (is_exactly b p) refl h
    where
      by_test : (list_any (is_exactly b) ps ≡ true → IsFound ps) → (t : Bool) → is_exactly b p ≡ t → (t || list_any (is_exactly b) ps) ≡ true → IsFound (p ∷ ps)
      by_test rest true e g = record {
        piece = p;
        is = ap (λ (t : Bool). cond t (Some p) (find (is_exactly b) ps)) e;
        only = λ s x. elim (or_true (exact_at s p) (list_any (exact_at s) ps) x) [
          | inl here ↦ eqb-true p.serial s (both (is_exactly b p) (p.serial == s) here).1
          | inr later ↦ clash (exact-meet p ps e (exact-any s ps later)) apart.0
        ];
      }
      by_test rest false e g = let x = rest g in record {
        piece = x.piece;
        is = ap (λ (t : Bool). cond t (Some p) (find (is_exactly b) ps)) e ∙ x.is;
        only = λ s y. elim (or_true (exact_at s p) (list_any (exact_at s) ps) y) [
          | inl here ↦ clash (both (is_exactly b p) (p.serial == s) here).0 e
          | inr later ↦ x.only s later
        ];
      }

  find-none : (ps : List Piece) → list_any (is_exactly b) ps ≡ false → find (is_exactly b) ps ≡ None
  find-none [] h = refl
  find-none (p ∷ ps) h = let o = or_false (is_exactly b p) (list_any (is_exactly b) ps) h in
      ap (λ (t : Bool). cond t (Some p) (find (is_exactly b) ps)) o.0 ∙ find-none ps o.1

  -- ---- a piece beside the bucket

  -- where a piece meets the bucket and isn't it, none is it
  alone : (T : Piece → Bool) → ((p q : Piece) → T p ≡ true → is_exactly b q ≡ true → does_meet p.bucket q ≡ true) → ((p : Piece) → T p ≡ true → is_exactly b p ≡ false) → (ps : List Piece) → IsApart ps → list_any T ps ≡ true
      → list_any (is_exactly b) ps ≡ false
  alone T meet other [] apart h = refl
  alone T meet other (p ∷ ps) apart h = elim (or_true (T p) (list_any T ps) h) [
    | inl here ↦ ap₂ (λ (x y : Bool). x || y) (other p here) (none-map (does_meet p.bucket) (is_exactly b) ps (λ q g. meet p q here g) apart.0)
    | inr later ↦ ap₂ (λ (x y : Bool). x || y)
        (is_false (is_exactly b p) (λ e. clash (any-map T (does_meet p.bucket) ps (λ q g. meets-sym p.bucket q.bucket (meet q p g e)) later) apart.0))
        (alone T meet other ps apart.2 later)
  ]

  unlike : (p : Piece) → ((p.bucket).bits ≡ b.bits → ⊥) → is_exactly b p ≡ false
  unlike p off = is_false (is_exactly b p) (λ e. off (ap (λ (c : Low). c.bits) (bucket-same p.bucket b e)))

  less : (m n : ℕ) → nat_lt m n ≡ true → m ≡ n → ⊥
  less m n h e = grind (arith, nat_tests)

  over-alone : (ps : List Piece) → IsApart ps → list_any (lies_over b) ps ≡ true → list_any (is_exactly b) ps ≡ false
  over-alone = alone (lies_over b)
      (λ p q h e. subst (λ (c : Low). does_meet p.bucket (record { bucket = c; serial = q.serial; ready = q.ready }) ≡ true) (sym (bucket-same q.bucket b e)) (meets-covered b p.bucket (both (nat_lt (p.bucket).bits b.bits) (covers p.bucket b) h).1))
      (λ p h. unlike p (less (p.bucket).bits b.bits (both (nat_lt (p.bucket).bits b.bits) (covers p.bucket b) h).0))

  inside-alone : (ps : List Piece) → IsApart ps → list_any (lies_inside b) ps ≡ true → list_any (is_exactly b) ps ≡ false
  inside-alone = alone (lies_inside b)
      (λ p q h e. subst (λ (c : Low). does_meet p.bucket (record { bucket = c; serial = q.serial; ready = q.ready }) ≡ true) (sym (bucket-same q.bucket b e)) (meets-covers b p.bucket (both (nat_lt b.bits (p.bucket).bits) (covers b p.bucket) h).1))
      (λ p h. unlike p (λ e. less b.bits (p.bucket).bits (both (nat_lt b.bits (p.bucket).bits) (covers b p.bucket) h).0 (sym e)))

  -- ---- both

  module _ (ps qs : List Piece) (apart : IsApart ps) (same : (c : Low) (s : ℕ) → names qs c s ≡ list_any (is_piece c s) (filter (does_meet b) ps)) where
    exacts : list_any (is_exactly b) qs ≡ list_any (is_exactly b) ps
    exacts = any-same (λ c s. same_bucket c b) b ps qs exact-meets same

    at : (s : ℕ) → list_any (exact_at s) qs ≡ list_any (exact_at s) ps
    at s = any-same (λ c k. same_bucket c b && (k == s)) b ps qs (λ p h. exact-meets p (both (is_exactly b p) (p.serial == s) h).0) same

    pub shapes-shown : shape_shown b qs ≡ shape_of b ps
    shapes-shown = by_test (list_any (is_exactly b) ps) refl
      where
        by_test : (t : Bool) → list_any (is_exactly b) ps ≡ t → shape_shown b qs ≡ shape_of b ps
        by_test true e =
            let x = serial-some qs (exacts ∙ e) in
            let y = found ps apart e in
            ap (λ (o : Option ℕ). shape_with o (list_any (lies_over b) qs) (list_any (lies_inside b) qs)) x.is
            ∙ ap Same (sym (y.only x.serial (sym (at x.serial) ∙ x.any)))
            ∙ sym (ap (λ (o : Option Piece). shape_by o (list_any (is_over b) ps) (list_any (is_inside b) ps)) y.is)
        by_test false e =
            ap (λ (o : Option ℕ). shape_with o (list_any (lies_over b) qs) (list_any (lies_inside b) qs)) (serial-none qs (exacts ∙ e))
            ∙ ap₂ shape_beside
            (any-same (λ c s. nat_lt c.bits b.bits && covers c b) b ps qs over-meets same ∙ over-all ps apart e)
            (any-same (λ c s. nat_lt b.bits c.bits && covers b c) b ps qs inside-meets same ∙ inside-all ps apart e)
            ∙ sym (ap (λ (o : Option Piece). shape_by o (list_any (is_over b) ps) (list_any (is_inside b) ps)) (find-none ps e))

    -- what is shown where a piece beside the bucket is
    beside : list_any (is_exactly b) ps ≡ false → shape_shown b qs ≡ shape_beside (list_any (lies_over b) qs) (list_any (lies_inside b) qs)
    beside e = ap (λ (o : Option ℕ). shape_with o (list_any (lies_over b) qs) (list_any (lies_inside b) qs)) (serial-none qs (exacts ∙ e))

    pub over-shown : list_any (lies_over b) qs ≡ true → shape_shown b qs ≡ Over
    over-shown h =
        beside (over-alone ps apart (sym (any-same (λ c s. nat_lt c.bits b.bits && covers c b) b ps qs over-meets same) ∙ h))
        ∙ ap (λ (t : Bool). shape_beside t (list_any (lies_inside b) qs)) h

    pub inside-shown : list_any (lies_inside b) qs ≡ true → (shape_shown b qs ≡ Over) ⊎ (shape_shown b qs ≡ Inside)
    inside-shown h = by_test (list_any (lies_over b) qs) refl
      where
        by_test : (t : Bool) → list_any (lies_over b) qs ≡ t → (shape_shown b qs ≡ Over) ⊎ (shape_shown b qs ≡ Inside)
        by_test true e = inl (over-shown e)
        by_test false e = inr (beside (inside-alone ps apart (sym (any-same (λ c s. nat_lt b.bits c.bits && covers b c) b ps qs inside-meets same) ∙ h)) ∙ ap₂ shape_beside e h)
