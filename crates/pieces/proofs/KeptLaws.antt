-- A piece that a change does not meet stays, with its serial.
use Rattle.std.proofs.Common.{◌≡◌, ◌==◌, ◌&&◌, ◌||◌, not, ℕ, ◌-◌, ◌<◌, Bool, true, false, cond, List, [], ◌∷◌, ◌++◌, map, filter, refl, sym, ap, ap₂, ◌∙◌, nat_lt}
use mathlib.Core.Bool.{true≢false}
use Rattle.std.specs.List.{list_any}
use Rattle.std.proofs.lemmas.List.Folds.{list_any-append}
use Rattle.bucket_ids.specs.Buckets.{Low, IsBucket, covers}
use Rattle.bucket_ids.specs.Paths.{first_path}
use Rattle.pieces.specs.declared.piece.Piece.{Piece}
use Rattle.pieces.specs.Pieces.{same_bucket, meets, is_piece, is_over, is_inside, is_exactly, does_meet, with_serial, renewed, ready_at, split_at, join_at, with_piece, apply_at, without, parts}
use Rattle.pieces.proofs.PieceLaws.{bucket-same, meets-refl}
use Rattle.pieces.proofs.SerialLaws.{fresh, none-parts}

or_turn : (x y z : Bool) → x || (y || z) ≡ y || (x || z)
or_turn true true z = refl
or_turn true false z = refl
or_turn false y z = refl

or_right : (x y : Bool) → y ≡ true → x || y ≡ true
or_right true y h = refl
or_right false y h = h

or_left : (x y : Bool) → x ≡ true → x || y ≡ true
or_left true y h = refl
or_left false y h = absurd (true≢false (sym h))

-- a piece that passes a test which the bucket fails is another
other : (b : Low) (s : ℕ) (p : Piece) (test : Low → Bool) → test b ≡ false → test p.bucket ≡ true → is_piece b s p ≡ false
other b s p test out here = ap (λ x. x && (p.serial == s)) (by_same (same_bucket p.bucket b) refl)
  where
    by_same : (t : Bool) → same_bucket p.bucket b ≡ t → t ≡ false
    by_same true e = absurd (true≢false (sym here ∙ ap test (bucket-same p.bucket b e) ∙ out))
    by_same false e = refl

-- what a test passes gets a new serial or goes
module _ (b : Low) (s t : ℕ) (older : s < t) (test : Low → Bool) (out : test b ≡ false) where
  kept-map : (f : Piece → Piece) → ((p : Piece) → is_piece b s (f p) ≡ is_piece b s p) → (ps : List Piece) → list_any (is_piece b s) (map f ps) ≡ list_any (is_piece b s) ps
  kept-map f same [] = refl
  kept-map f same (p ∷ ps) = ap₂ (λ x y. x || y) (same p) (kept-map f same ps)

  pub kept-renewed : (ps : List Piece) → list_any (is_piece b s) (renewed (λ p. test p.bucket) t ps) ≡ list_any (is_piece b s) ps
  kept-renewed ps = kept-map (λ p. cond (test p.bucket) (with_serial t p) p) (λ p. by_test p (test p.bucket) refl) ps
    where
      by_test : (p : Piece) (x : Bool) → test p.bucket ≡ x → is_piece b s (cond x (with_serial t p) p) ≡ is_piece b s p
      by_test p true e = fresh b s t older (with_serial t p) refl ∙ sym (other b s p test out e)
      by_test p false e = refl

  pub kept-ready : (c : Low) → ((p : Piece) → is_exactly c p ≡ true → test p.bucket ≡ true) → (ps : List Piece) → list_any (is_piece b s) (ready_at c t ps) ≡ list_any (is_piece b s) ps
  kept-ready c passes ps = kept-map (λ p. cond (is_exactly c p) (record { bucket = p.bucket; serial = t; ready = true }) p) (λ p. by_test p (is_exactly c p) refl) ps
    where
      by_test : (p : Piece) (x : Bool) → is_exactly c p ≡ x → is_piece b s (cond x (record { bucket = p.bucket; serial = t; ready = true }) p) ≡ is_piece b s p
      by_test p true e = fresh b s t older (record { bucket = p.bucket; serial = t; ready = true }) refl ∙ sym (other b s p test out (passes p e))
      by_test p false e = refl

  kept-filter : (gone : Piece → Bool) → ((p : Piece) → gone p ≡ true → test p.bucket ≡ true) → (ps : List Piece) → list_any (is_piece b s) (filter (λ p. not (gone p)) ps) ≡ list_any (is_piece b s) ps
  kept-filter gone passes [] = refl
  kept-filter gone passes (p ∷ ps) = by_test (gone p) refl (kept-filter gone passes ps)
    where
      by_test : (x : Bool) → gone p ≡ x → list_any (is_piece b s) (filter (λ p. not (gone p)) ps) ≡ list_any (is_piece b s) ps
          → list_any (is_piece b s) (cond (not x) (p ∷ filter (λ p. not (gone p)) ps) (filter (λ p. not (gone p)) ps)) ≡ is_piece b s p || list_any (is_piece b s) ps
      by_test true e ih = ih ∙ sym (ap (λ x. x || list_any (is_piece b s) ps) (other b s p test out (passes p e)))
      by_test false e ih = ap (λ x. is_piece b s p || x) ih

  kept-with_piece : (q : Piece) → q.serial ≡ t → (ps : List Piece) → list_any (is_piece b s) (with_piece q ps) ≡ list_any (is_piece b s) ps
  kept-with_piece q new [] = ap (λ x. x || false) (fresh b s t older q new)
  kept-with_piece q new (p ∷ ps) = by_test (nat_lt (first_path q.bucket) (first_path p.bucket)) (kept-with_piece q new ps)
    where
      by_test : (x : Bool) → list_any (is_piece b s) (with_piece q ps) ≡ list_any (is_piece b s) ps
          → list_any (is_piece b s) (cond x (q ∷ p ∷ ps) (p ∷ with_piece q ps)) ≡ is_piece b s p || list_any (is_piece b s) ps
      by_test true ih = ap (λ x. x || (is_piece b s p || list_any (is_piece b s) ps)) (fresh b s t older q new)
      by_test false ih = ap (λ x. is_piece b s p || x) ih

-- a bucket that another does not meet
module _ (b c : Low) (s t : ℕ) (older : s < t) (out : meets b c ≡ false) where
  over_meets : (p : Piece) → covers p.bucket c ≡ true → meets p.bucket c ≡ true
  over_meets p e = or_left (covers p.bucket c) (covers c p.bucket) e

  inside_meets : (p : Piece) → covers c p.bucket ≡ true → meets p.bucket c ≡ true
  inside_meets p e = or_right (covers p.bucket c) (covers c p.bucket) e

  exact_meets : IsBucket c → (p : Piece) → is_exactly c p ≡ true → meets p.bucket c ≡ true
  exact_meets vc p e = ap (λ x. meets x c) (bucket-same p.bucket c e) ∙ meets-refl c vc

  pub kept-activate : (ps : List Piece) → list_any (is_piece b s) (renewed (does_meet c) t ps) ≡ list_any (is_piece b s) ps
  kept-activate ps = kept-renewed b s t older (λ x. meets x c) out ps

  pub kept-made_ready : IsBucket c → (ps : List Piece) → list_any (is_piece b s) (ready_at c t ps) ≡ list_any (is_piece b s) ps
  kept-made_ready vc ps = kept-ready b s t older (λ x. meets x c) out c (exact_meets vc) ps

  pub kept-delete : IsBucket c → (ps : List Piece) → list_any (is_piece b s) (without c ps) ≡ list_any (is_piece b s) ps
  kept-delete vc ps = kept-filter b s t older (λ x. meets x c) out (is_exactly c) (exact_meets vc) ps

  pub kept-split : (ps : List Piece) → list_any (is_piece b s) (split_at c t ps) ≡ list_any (is_piece b s) ps
  kept-split [] = refl
  kept-split (p ∷ ps) = by_test (covers p.bucket c) refl (kept-split ps)
    where
      by_test : (x : Bool) → covers p.bucket c ≡ x → list_any (is_piece b s) (split_at c t ps) ≡ list_any (is_piece b s) ps
          → list_any (is_piece b s) (cond x (parts (c.bits - p.bucket.bits) p.bucket c t p.ready ++ ps) (p ∷ split_at c t ps)) ≡ is_piece b s p || list_any (is_piece b s) ps
      by_test true e ih =
          list_any-append (is_piece b s) (parts (c.bits - p.bucket.bits) p.bucket c t p.ready) ps
          ∙ ap (λ x. x || list_any (is_piece b s) ps) (none-parts b s t older (c.bits - p.bucket.bits) p.bucket c p.ready ∙ sym (other b s p (λ x. meets x c) out (over_meets p e)))
      by_test false e ih = ap (λ x. is_piece b s p || x) ih

  pub kept-join : (ps : List Piece) → list_any (is_piece b s) (join_at c t ps) ≡ list_any (is_piece b s) ps
  kept-join [] = refl
  kept-join (p ∷ ps) = by_test (covers c p.bucket) refl (kept-join ps)
    where
      by_test : (x : Bool) → covers c p.bucket ≡ x → list_any (is_piece b s) (join_at c t ps) ≡ list_any (is_piece b s) ps
          → list_any (is_piece b s) (cond x (record { bucket = c; serial = t; ready = p.ready || list_any (λ q. covers c q.bucket && q.ready) ps } ∷ filter (λ q. not (covers c q.bucket)) ps) (p ∷ join_at c t ps)) ≡ is_piece b s p || list_any (is_piece b s) ps
      by_test true e ih =
          ap₂ (λ x y. x || y) (fresh b s t older (record { bucket = c; serial = t; ready = p.ready || list_any (λ q. covers c q.bucket && q.ready) ps }) refl ∙ sym (other b s p (λ x. meets x c) out (inside_meets p e)))
          (kept-filter b s t older (λ x. meets x c) out (λ q. covers c q.bucket) inside_meets ps)
      by_test false e ih = ap (λ x. is_piece b s p || x) ih

  pub kept-apply : (ps : List Piece) → list_any (is_piece b s) (apply_at c t ps) ≡ list_any (is_piece b s) ps
  kept-apply ps = by_tests (list_any (is_over c) ps) (list_any (is_inside c) ps)
    where
      by_tests : (x y : Bool) → list_any (is_piece b s) (cond x (split_at c t ps) (cond y (join_at c t ps) (with_piece (record { bucket = c; serial = t; ready = false }) ps))) ≡ list_any (is_piece b s) ps
      by_tests true y = kept-split ps
      by_tests false true = kept-join ps
      by_tests false false = kept-with_piece b s t older (λ x. meets x c) out (record { bucket = c; serial = t; ready = false }) refl ps
