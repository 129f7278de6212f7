-- The pieces inside a bucket become one.
use Rattle.std.proofs.Common.{◌≡◌, ◌&&◌, ◌||◌, not, ℕ, Bool, true, false, cond, List, [], ◌∷◌, filter, refl, ap, ap₂, ◌⊎◌, inl, inr}
use Rattle.std.specs.List.{list_any}
use Rattle.bucket_ids.specs.Buckets.{Low, IsBucket, has_key, covers}
use Rattle.pieces.specs.declared.piece.Piece.{Piece}
use Rattle.pieces.specs.Pieces.{same_bucket, meets, join_at, without, does_meet, is_inside, is_exactly, has_key_of}
use Rattle.proof_basics.proofs.Tests.{or_false, or_true, or_left, or_right, is_false, clash}
use Rattle.pass_model.specs.Shapes.{IsApart}
use Rattle.pass_model.proofs.Tests.{tell, any-filter, none-filter}
use Rattle.pass_model.proofs.Geometry.{covers-key, covers-trans, apart-sym, meets-covered}

module _ (b : Low) (s : ℕ) (okb : IsBucket b) where
  abbrev pub whole : Piece → List Piece → Piece
  whole p ps = record { bucket = b; serial = s; ready = p.ready || list_any (λ q. covers b q.bucket && q.ready) ps }

  abbrev pub joined : Piece → List Piece → List Piece
  joined p ps = whole p ps ∷ filter (λ q. not (covers b q.bucket)) ps

  pub join-none : (c : Low) → meets b c ≡ false → (ps : List Piece) → list_any (does_meet c) ps ≡ false → list_any (does_meet c) (join_at b s ps) ≡ false
  join-none c apart [] h = refl
  join-none c apart (p ∷ ps) h = let o = or_false (meets p.bucket c) (list_any (does_meet c) ps) h in by_test (covers b p.bucket) o.0 o.1 (join-none c apart ps o.1)
    where
      by_test : (t : Bool) → meets p.bucket c ≡ false → list_any (does_meet c) ps ≡ false → list_any (does_meet c) (join_at b s ps) ≡ false → list_any (does_meet c) (cond t (joined p ps) (p ∷ join_at b s ps)) ≡ false
      by_test true here rest ih = ap₂ (λ x y. x || y) apart (none-filter (does_meet c) (λ q. not (covers b q.bucket)) ps rest)
      by_test false here rest ih = ap₂ (λ x y. x || y) here ih

  pub join-exact : (T : Piece → Bool) → ((r : Bool) → T (record { bucket = b; serial = s; ready = r }) ≡ true) → (ps : List Piece) → list_any (is_inside b) ps ≡ true → list_any T (join_at b s ps) ≡ true
  join-exact T is [] h = cc
  join-exact T is (p ∷ ps) h = by_test (covers b p.bucket) refl (or_true (covers b p.bucket) (list_any (is_inside b) ps) h) (λ x. join-exact T is ps x)
    where
      by_test : (t : Bool) → covers b p.bucket ≡ t → (covers b p.bucket ≡ true) ⊎ (list_any (is_inside b) ps ≡ true) → (list_any (is_inside b) ps ≡ true → list_any T (join_at b s ps) ≡ true) → list_any T (cond t (joined p ps) (p ∷ join_at b s ps)) ≡ true
      by_test true e o ih = or_left (T (whole p ps)) (list_any T (filter (λ q. not (covers b q.bucket)) ps)) (is (p.ready || list_any (λ q. covers b q.bucket && q.ready) ps))
      by_test false e o ih = elim o [ inl x ↦ clash x e | inr x ↦ or_right (T p) (list_any T (join_at b s ps)) (ih x) ]

  -- pieces that don't lie inside stay
  pub join-stay : (T : Piece → Bool) → ((p : Piece) → T p ≡ true → covers b p.bucket ≡ false) → (ps : List Piece) → list_any T ps ≡ true → list_any T (join_at b s ps) ≡ true
  join-stay T outside [] h = cc
  join-stay T outside (p ∷ ps) h = by_test (covers b p.bucket) refl (or_true (T p) (list_any T ps) h) (λ x. join-stay T outside ps x)
    where
      by_test : (t : Bool) → covers b p.bucket ≡ t → (T p ≡ true) ⊎ (list_any T ps ≡ true) → (list_any T ps ≡ true → list_any T (join_at b s ps) ≡ true) → list_any T (cond t (joined p ps) (p ∷ join_at b s ps)) ≡ true
      by_test true e (inl here) ih = clash e (outside p here)
      by_test true e (inr later) ih = or_right (T (whole p ps)) (list_any T (filter (λ q. not (covers b q.bucket)) ps)) (any-filter T (λ q. not (covers b q.bucket)) ps (λ q h. ap (λ t. not t) (outside q h)) later)
      by_test false e (inl here) ih = or_left (T p) (list_any T (join_at b s ps)) here
      by_test false e (inr later) ih = or_right (T p) (list_any T (join_at b s ps)) (ih later)

  pub join-key : (key : ℕ) (ps : List Piece) → list_any (has_key_of key) ps ≡ true → list_any (has_key_of key) (join_at b s ps) ≡ true
  join-key key [] h = cc
  join-key key (p ∷ ps) h = by_test (covers b p.bucket) refl (or_true (has_key p.bucket key) (list_any (has_key_of key) ps) h) (λ x. join-key key ps x) (tell (has_key b key))
    where
      outside : has_key b key ≡ false → (q : Piece) → has_key q.bucket key ≡ true → covers b q.bucket ≡ false
      outside n q h = is_false (covers b q.bucket) (λ c. clash (covers-key b q.bucket key c h) n)

      by_test : (t : Bool) → covers b p.bucket ≡ t → (has_key p.bucket key ≡ true) ⊎ (list_any (has_key_of key) ps ≡ true) → (list_any (has_key_of key) ps ≡ true → list_any (has_key_of key) (join_at b s ps) ≡ true) → (has_key b key ≡ true) ⊎ (has_key b key ≡ false)
          → list_any (has_key_of key) (cond t (joined p ps) (p ∷ join_at b s ps)) ≡ true
      by_test true e o ih (inl has) = or_left (has_key b key) (list_any (has_key_of key) (filter (λ q. not (covers b q.bucket)) ps)) has
      by_test true e (inl here) ih (inr n) = clash (covers-key b p.bucket key e here) n
      by_test true e (inr later) ih (inr n) = or_right (has_key b key) (list_any (has_key_of key) (filter (λ q. not (covers b q.bucket)) ps)) (any-filter (has_key_of key) (λ q. not (covers b q.bucket)) ps (λ q h. ap (λ t. not t) (outside n q h)) later)
      by_test false e (inl here) ih k = or_left (has_key p.bucket key) (list_any (has_key_of key) (join_at b s ps)) here
      by_test false e (inr later) ih k = or_right (has_key p.bucket key) (list_any (has_key_of key) (join_at b s ps)) (ih later)

  -- a piece beside those inside doesn't meet the whole
  beside : (p q : Low) → covers b p ≡ true → covers b q ≡ false → meets p q ≡ false → meets b q ≡ false
  beside p q inside out apart = is_false (meets b q) (λ m. elim (or_true (covers b q) (covers q b) m) [
    | inl x ↦ clash x out
    | inr x ↦ clash (meets-covered p q (covers-trans q b p x inside)) apart
  ])

  filter-beside : (p : Low) (ps : List Piece) → covers b p ≡ true → list_any (does_meet p) ps ≡ false → list_any (does_meet b) (filter (λ q. not (covers b q.bucket)) ps) ≡ false
  filter-beside p [] inside h = refl
  filter-beside p (q ∷ ps) inside h = let o = or_false (meets q.bucket p) (list_any (does_meet p) ps) h in by_test (covers b q.bucket) refl o.0 (filter-beside p ps inside o.1)
    where
      by_test : (t : Bool) → covers b q.bucket ≡ t → meets q.bucket p ≡ false → list_any (does_meet b) (filter (λ x. not (covers b x.bucket)) ps) ≡ false → list_any (does_meet b) (cond (not t) (q ∷ filter (λ x. not (covers b x.bucket)) ps) (filter (λ x. not (covers b x.bucket)) ps)) ≡ false
      by_test true e apart ih = ih
      by_test false e apart ih = ap₂ (λ x y. x || y) (apart-sym b q.bucket (beside p q.bucket inside e (apart-sym q.bucket p apart))) ih

  filter-apart : (keep : Piece → Bool) (ps : List Piece) → IsApart ps → IsApart (filter keep ps)
  filter-apart keep [] a = tt
  filter-apart keep (p ∷ ps) a = by_test (keep p) (filter-apart keep ps a.2)
    where
      by_test : (t : Bool) → IsApart (filter keep ps) → IsApart (cond t (p ∷ filter keep ps) (filter keep ps))
      by_test true ih = (none-filter (does_meet p.bucket) keep ps a.0, a.1, ih)
      by_test false ih = ih

  keeps-out : (p : Low) → covers b p ≡ false → (ps : List Piece) → list_any (does_meet p) ps ≡ false → list_any (does_meet p) (join_at b s ps) ≡ false
  keeps-out p out [] h = refl
  keeps-out p out (q ∷ ps) h = let o = or_false (meets q.bucket p) (list_any (does_meet p) ps) h in by_test (covers b q.bucket) refl o.0 o.1 (keeps-out p out ps o.1)
    where
      by_test : (t : Bool) → covers b q.bucket ≡ t → meets q.bucket p ≡ false → list_any (does_meet p) ps ≡ false → list_any (does_meet p) (join_at b s ps) ≡ false → list_any (does_meet p) (cond t (joined q ps) (q ∷ join_at b s ps)) ≡ false
      by_test true e here rest ih = ap₂ (λ x y. x || y) (beside q.bucket p e out here) (none-filter (does_meet p) (λ x. not (covers b x.bucket)) ps rest)
      by_test false e here rest ih = ap₂ (λ x y. x || y) here ih

  pub join-apart : (ps : List Piece) → IsApart ps → IsApart (join_at b s ps)
  join-apart [] a = tt
  join-apart (p ∷ ps) a = by_test (covers b p.bucket) refl (join-apart ps a.2)
    where
      by_test : (t : Bool) → covers b p.bucket ≡ t → IsApart (join_at b s ps) → IsApart (cond t (joined p ps) (p ∷ join_at b s ps))
      by_test true e ih = (filter-beside p.bucket ps e a.0, okb, filter-apart (λ q. not (covers b q.bucket)) ps a.2)
      by_test false e ih = (keeps-out p.bucket e ps a.0, a.1, ih)

pub without-apart : (b : Low) (ps : List Piece) → IsApart ps → IsApart (without b ps)
without-apart b [] a = tt
without-apart b (p ∷ ps) a = by_test (same_bucket p.bucket b) (without-apart b ps a.2)
  where
    by_test : (t : Bool) → IsApart (without b ps) → IsApart (cond (not t) (p ∷ without b ps) (without b ps))
    by_test true ih = ih
    by_test false ih = (none-filter (does_meet p.bucket) (λ x. not (is_exactly b x)) ps a.0, a.1, ih)
