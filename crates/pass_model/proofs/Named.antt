-- Tests of pieces by their buckets and serials, over an answer and over the pieces that it names.
use Rattle.std.proofs.Common.{◌≡◌, ◌==◌, ◌||◌, ℕ, Bool, true, false, cond, eqb, List, [], ◌∷◌, filter, refl, sym, ap, ap₂, ◌∙◌, inl, inr}
use Rattle.std.specs.List.{list_any}
use Rattle.std.proofs.lemmas.Bool.{eqb-true}
use Rattle.bucket_ids.specs.Buckets.{Low}
use Rattle.pieces.specs.declared.piece.Piece.{Piece}
use Rattle.pieces.specs.Pieces as laid
use Rattle.pieces.specs.Pieces.{does_meet, is_piece}
use Rattle.proof_basics.proofs.Tests.{both, or_true, or_left, or_right, and_true, same-by}
use Rattle.pieces.proofs.PieceLaws.{bucket-same, same-refl}
use Rattle.lane_journals.specs.Buckets.{same_bucket}
use Rattle.lane_journals.specs.Meanings.{names}
use Rattle.lane_journals.proofs.BucketLaws.{same_bucket-refl, same_bucket-true}
use Rattle.proof_basics.proofs.Numbers.{same-nat}

-- a bucket and a serial that pass a test and are among the named ones
pub record IsOneOf (P : Low → ℕ → Bool) (named : Low → ℕ → Bool) : Type 0 where
  pub bucket : Low
  pub serial : ℕ
  pub named_so : named bucket serial ≡ true
  pub passes : P bucket serial ≡ true

-- ---- an answer

named-one : (q : Piece) (qs : List Piece) → names (q ∷ qs) q.bucket q.serial ≡ true
named-one q qs = rw (same_bucket-refl q.bucket, same-nat q.serial) refl

named-more : (q : Piece) (qs : List Piece) (c : Low) (s : ℕ) → names qs c s ≡ true → names (q ∷ qs) c s ≡ true
named-more q qs c s h = by_case (same_bucket q.bucket c) (eqb q.serial s)
  where
    by_case : (a b : Bool) → cond a (cond b true (names qs c s)) (names qs c s) ≡ true
    by_case true true = refl
    by_case true false = h
    by_case false b = h

module _ (P : Low → ℕ → Bool) where
  abbrev test : Piece → Bool
  test p = P p.bucket p.serial

  pub any-named : (qs : List Piece) → list_any test qs ≡ true → IsOneOf P (names qs)
  any-named [] h = cc
  any-named (q ∷ qs) h = elim (or_true (test q) (list_any test qs) h) [
    | inl here ↦ record { bucket = q.bucket; serial = q.serial; named_so = named-one q qs; passes = here }
    | inr later ↦ (let x = any-named qs later in record { bucket = x.bucket; serial = x.serial; named_so = named-more q qs x.bucket x.serial x.named_so; passes = x.passes })
  ]

  pub named-any : (qs : List Piece) (c : Low) (s : ℕ) → names qs c s ≡ true → P c s ≡ true → list_any test qs ≡ true
  named-any [] c s h p = cc
  named-any (q ∷ qs) c s h p = by_case (λ g. named-any qs c s g p) (same_bucket q.bucket c) (eqb q.serial s) refl refl h
    where
      by_case : (names qs c s ≡ true → list_any test qs ≡ true) → (a b : Bool) → same_bucket q.bucket c ≡ a → eqb q.serial s ≡ b → cond a (cond b true (names qs c s)) (names qs c s) ≡ true → (test q || list_any test qs) ≡ true
      by_case rest true true e f g = or_left (test q) (list_any test qs) (ap₂ P (same_bucket-true q.bucket c e) (eqb-true q.serial s f) ∙ p)
      by_case rest true false e f g = or_right (test q) (list_any test qs) (rest g)
      by_case rest false b e f g = or_right (test q) (list_any test qs) (rest g)

  -- ---- the node's pieces that meet the bucket

  module _ (b : Low) where
    abbrev there : List Piece → Low → ℕ → Bool
    there ps c s = list_any (is_piece c s) (filter (does_meet b) ps)

    there-more : (q : Piece) (ps : List Piece) (c : Low) (s : ℕ) → there ps c s ≡ true → there (q ∷ ps) c s ≡ true
    there-more q ps c s h = by_case (does_meet b q)
      where
        by_case : (a : Bool) → list_any (is_piece c s) (cond a (q ∷ filter (does_meet b) ps) (filter (does_meet b) ps)) ≡ true
        by_case true = or_right (is_piece c s q) (there ps c s) h
        by_case false = h

    there-one : (q : Piece) (ps : List Piece) → does_meet b q ≡ true → there (q ∷ ps) q.bucket q.serial ≡ true
    there-one q ps h = ap (λ (t : Bool). list_any (is_piece q.bucket q.serial) (cond t (q ∷ filter (does_meet b) ps) (filter (does_meet b) ps))) h
        ∙ or_left (is_piece q.bucket q.serial q) (there ps q.bucket q.serial) (and_true (laid.same_bucket q.bucket q.bucket) (q.serial == q.serial) (same-refl q.bucket) (same-nat q.serial))

    pub any-there : (ps : List Piece) → ((p : Piece) → test p ≡ true → does_meet b p ≡ true) → list_any test ps ≡ true → IsOneOf P (there ps)
    any-there [] meet h = cc
    any-there (q ∷ ps) meet h = elim (or_true (test q) (list_any test ps) h) [
      | inl here ↦ record { bucket = q.bucket; serial = q.serial; named_so = there-one q ps (meet q here); passes = here }
      | inr later ↦ (let x = any-there ps meet later in record { bucket = x.bucket; serial = x.serial; named_so = there-more q ps x.bucket x.serial x.named_so; passes = x.passes })
    ]

    pub there-any : (ps : List Piece) (c : Low) (s : ℕ) → there ps c s ≡ true → P c s ≡ true → list_any test ps ≡ true
    there-any [] c s h p = cc
    there-any (q ∷ ps) c s h p = by_case (λ g. there-any ps c s g p) (does_meet b q) h
      where
        by_case : (there ps c s ≡ true → list_any test ps ≡ true) → (a : Bool) → list_any (is_piece c s) (cond a (q ∷ filter (does_meet b) ps) (filter (does_meet b) ps)) ≡ true → (test q || list_any test ps) ≡ true
        by_case rest true g = elim (or_true (is_piece c s q) (there ps c s) g) [
          | inl here ↦ (let x = both (laid.same_bucket q.bucket c) (q.serial == s) here in or_left (test q) (list_any test ps) (ap₂ P (bucket-same q.bucket c x.0) (eqb-true q.serial s x.1) ∙ p))
          | inr later ↦ or_right (test q) (list_any test ps) (rest later)
        ]
        by_case rest false g = or_right (test q) (list_any test ps) (rest g)

    -- a test that only pieces pass which meet the bucket finds one in both or in none
    pub any-same : (ps qs : List Piece) → ((p : Piece) → test p ≡ true → does_meet b p ≡ true) → ((c : Low) (s : ℕ) → names qs c s ≡ there ps c s) → list_any test qs ≡ list_any test ps
    any-same ps qs meet same = same-by (list_any test qs) (list_any test ps)
        (λ h. let x = any-named qs h in there-any ps x.bucket x.serial (sym (same x.bucket x.serial) ∙ x.named_so) x.passes)
        (λ h. let x = any-there ps meet h in named-any qs x.bucket x.serial (same x.bucket x.serial ∙ x.named_so) x.passes)
