-- Pieces in the order of their runs stay so.
use Rattle.std.proofs.Common.{◌≡◌, ◌&&◌, ◌||◌, not, ℕ, zero, suc, ◌+◌, ◌-◌, ◌<◌, ◌≤◌, Bool, true, false, cond, List, [], ◌∷◌, ◌++◌, map, filter, refl, sym, ap, ap₂, ◌∙◌, subst, arith, nat_lt}
use Rattle.std.specs.List.{list_any}
use Rattle.std.proofs.lemmas.Bool.Decides.{nat_tests}
use Rattle.std.proofs.lemmas.List.{append_assoc}
use Rattle.bucket_ids.specs.Buckets.{Low, IsBucket, covers, first_child, second_child}
use Rattle.bucket_ids.specs.Paths.{first_path, last_path}
use Rattle.pieces.specs.declared.piece.Piece.{Piece}
use Rattle.pieces.specs.Pieces.{meets, does_meet, is_inside, is_exactly, with_serial, renew, renewed, split_at, with_piece, parts, join_at, ready_at, make_ready}
use Rattle.pieces.specs.Runs.{IsLaid, AreRuns}
use Rattle.proof_basics.proofs.Tests.{or_false}
use Rattle.pieces.proofs.PieceLaws.{meets-sym}
use Rattle.pieces.proofs.RunLaws.{covers-first, covers-last, covers-bits, first-bucket, second-bucket, apart-runs, not_meets-runs, first-last}

pub lt-true : (a b : ℕ) → nat_lt a b ≡ true → a < b
lt-true a b h = grind (arith, nat_tests)

pub lt-false : (a b : ℕ) → nat_lt a b ≡ false → b ≤ a
lt-false a b h = grind (arith, nat_tests)

pub IsLaid-lower : (lo hi : ℕ) → lo ≤ hi → (ps : List Piece) → IsLaid hi ps → IsLaid lo ps
IsLaid-lower lo hi le [] h = tt
IsLaid-lower lo hi le (p ∷ ps) h = ((let f = h.0 in omega (arith, le, f)), h.1, h.2)

-- ---- changes that keep the buckets
pub IsLaid-map : (f : Piece → Piece) → ((p : Piece) → (f p).bucket ≡ p.bucket) → (lo : ℕ) (ps : List Piece) → IsLaid lo ps → IsLaid lo (map f ps)
IsLaid-map f keeps lo [] h = tt
IsLaid-map f keeps lo (p ∷ ps) h =
    (subst (λ b. lo ≤ first_path b) (sym (keeps p)) h.0, subst IsBucket (sym (keeps p)) h.1, subst (λ b. IsLaid (last_path b + 1) (map f ps)) (sym (keeps p)) (IsLaid-map f keeps (last_path p.bucket + 1) ps h.2))

pub renew_bucket : (test : Piece → Bool) (s : ℕ) (p : Piece) → (renew test s p).bucket ≡ p.bucket
renew_bucket test s p = by_test (test p)
  where
    by_test : (t : Bool) → (cond t (with_serial s p) p).bucket ≡ p.bucket
    by_test true = refl
    by_test false = refl

pub ready_bucket : (b : Low) (s : ℕ) (p : Piece) → (make_ready b s p).bucket ≡ p.bucket
ready_bucket b s p = by_test (is_exactly b p)
  where
    by_test : (t : Bool) → (cond t (record { bucket = p.bucket; serial = s; ready = true }) p).bucket ≡ p.bucket
    by_test true = refl
    by_test false = refl

pub IsLaid-renewed : (test : Piece → Bool) (s lo : ℕ) (ps : List Piece) → IsLaid lo ps → IsLaid lo (renewed test s ps)
IsLaid-renewed test s lo ps h = IsLaid-map (renew test s) (renew_bucket test s) lo ps h

pub IsLaid-ready : (b : Low) (s lo : ℕ) (ps : List Piece) → IsLaid lo ps → IsLaid lo (ready_at b s ps)
IsLaid-ready b s lo ps h = IsLaid-map (make_ready b s) (ready_bucket b s) lo ps h

-- ---- fewer pieces
pub IsLaid-filter : (test : Piece → Bool) (lo : ℕ) (ps : List Piece) → IsLaid lo ps → IsLaid lo (filter test ps)
IsLaid-filter test lo [] h = tt
IsLaid-filter test lo (p ∷ ps) h = by_test (test p) (IsLaid-filter test (last_path p.bucket + 1) ps h.2)
  where
    by_test : (t : Bool) → IsLaid (last_path p.bucket + 1) (filter test ps) → IsLaid lo (cond t (p ∷ filter test ps) (filter test ps))
    by_test true ih = (h.0, h.1, ih)
    by_test false ih = IsLaid-lower lo (last_path p.bucket + 1) (let f = h.0 in let o = first-last p.bucket in omega (arith, f, o)) (filter test ps) ih

-- ---- a join
pub join_at-none : (b : Low) (s : ℕ) (ps : List Piece) → list_any (is_inside b) ps ≡ false → join_at b s ps ≡ ps
join_at-none b s [] h = refl
join_at-none b s (p ∷ ps) h =
    let apart = or_false (covers b p.bucket) _ h in
    ap (λ t. cond t (record { bucket = b; serial = s; ready = p.ready || list_any (λ q. covers b q.bucket && q.ready) ps } ∷ filter (λ q. not (covers b q.bucket)) ps) (p ∷ join_at b s ps)) apart.0
    ∙ ap (λ xs. p ∷ xs) (join_at-none b s ps apart.1)

module _ (laws : AreRuns) where
  -- nothing behind a bucket meets it
  pub none_past : (b : Low) → IsBucket b → (lo : ℕ) → last_path b < lo → (ps : List Piece) → IsLaid lo ps → list_any (does_meet b) ps ≡ false
  none_past b vb lo lt [] h = refl
  none_past b vb lo lt (p ∷ ps) h =
      let low : last_path b < first_path p.bucket = (let f = h.0 in omega (arith, f, lt)) in
      let order = first-last p.bucket in
      ap₂ (λ x y. x || y) (meets-sym p.bucket b ∙ apart-runs laws b p.bucket vb h.1 low) (none_past b vb (last_path p.bucket + 1) (omega (arith, low, order)) ps h.2)

  -- ---- one piece more
  pub IsLaid-insert : (q : Piece) → IsBucket q.bucket → (lo : ℕ) → lo ≤ first_path q.bucket → (ps : List Piece) → list_any (does_meet q.bucket) ps ≡ false → IsLaid lo ps → IsLaid lo (with_piece q ps)
  IsLaid-insert q vq lo le [] none h = (le, vq, tt)
  IsLaid-insert q vq lo le (p ∷ ps) none h = by_test (nat_lt (first_path q.bucket) (first_path p.bucket)) refl (λ l. IsLaid-insert q vq (last_path p.bucket + 1) l ps apart.1 h.2)
    where
      apart : (meets p.bucket q.bucket ≡ false) × (list_any (does_meet q.bucket) ps ≡ false)
      apart = or_false (meets p.bucket q.bucket) _ none

      by_test : (t : Bool) → nat_lt (first_path q.bucket) (first_path p.bucket) ≡ t → (last_path p.bucket + 1 ≤ first_path q.bucket → IsLaid (last_path p.bucket + 1) (with_piece q ps))
          → IsLaid lo (cond t (q ∷ p ∷ ps) (p ∷ with_piece q ps))
      by_test true e ih =
          let lt = lt-true _ _ e in
          let order = first-last p.bucket in
          let past = not_meets-runs laws q.bucket p.bucket vq h.1 (meets-sym q.bucket p.bucket ∙ apart.0) (omega (arith, lt, order)) in
          (le, vq, ((omega (arith, past)), h.1, h.2))
      by_test false e ih =
          let ge = lt-false _ _ e in
          let order = first-last q.bucket in
          let past = not_meets-runs laws p.bucket q.bucket h.1 vq apart.0 (omega (arith, ge, order)) in
          (h.0, h.1, ih (omega (arith, past)))

  -- ---- a split
  pub IsLaid-parts : (k : ℕ) (from to : Low) (s : ℕ) (r : Bool) (lo : ℕ) (rest : List Piece) → IsBucket from → from.bits + k ≤ 58 → lo ≤ first_path from → IsLaid (last_path from + 1) rest → IsLaid lo (parts k from to s r ++ rest)
  IsLaid-parts zero from to s r lo rest v le low h = (low, v, h)
  IsLaid-parts (suc k) from to s r lo rest v le low h = by_test (covers (first_child from) to)
      (λ w x y z. IsLaid-parts k (first_child from) to s r lo (record { bucket = second_child from; serial = s; ready = r } ∷ rest) w x y z)
      (λ w x y z. IsLaid-parts k (second_child from) to s r (last_path (first_child from) + 1) rest w x y z)
    where
      less : from.bits < 58
      less = omega (arith, le)

      second : Piece
      second = record { bucket = second_child from; serial = s; ready = r }

      seam : first_path (second_child from) ≡ last_path (first_child from) + 1
      seam = laws.seam from v less

      end : last_path (second_child from) ≡ last_path from
      end = laws.last from v less

      by_test : (t : Bool)
          → (IsBucket (first_child from) → (first_child from).bits + k ≤ 58 → lo ≤ first_path (first_child from) → IsLaid (last_path (first_child from) + 1) (second ∷ rest) → IsLaid lo (parts k (first_child from) to s r ++ second ∷ rest))
          → (IsBucket (second_child from) → (second_child from).bits + k ≤ 58 → last_path (first_child from) + 1 ≤ first_path (second_child from) → IsLaid (last_path (second_child from) + 1) rest → IsLaid (last_path (first_child from) + 1) (parts k (second_child from) to s r ++ rest))
          → IsLaid lo (cond t (parts k (first_child from) to s r ++ second ∷ []) (record { bucket = first_child from; serial = s; ready = r } ∷ parts k (second_child from) to s r) ++ rest)
      by_test true f g = subst (IsLaid lo) (sym (append_assoc (parts k (first_child from) to s r) (second ∷ []) rest))
          (f (first-bucket from v less) (omega (arith, le)) low
          ((omega (arith, seam)), second-bucket from v less, subst (λ x. IsLaid (x + 1) rest) (sym end) h))
      by_test false f g = (
        low,
        first-bucket from v less,
        g (second-bucket from v less) (omega (arith, le)) (omega (arith, seam)) (subst (λ x. IsLaid (x + 1) rest) (sym end) h),
      )

  pub IsLaid-split : (b : Low) → IsBucket b → (s lo : ℕ) (ps : List Piece) → IsLaid lo ps → IsLaid lo (split_at b s ps)
  IsLaid-split b vb s lo [] h = tt
  IsLaid-split b vb s lo (p ∷ ps) h = by_test (covers p.bucket b) refl (IsLaid-split b vb s (last_path p.bucket + 1) ps h.2)
    where
      by_test : (t : Bool) → covers p.bucket b ≡ t → IsLaid (last_path p.bucket + 1) (split_at b s ps) → IsLaid lo (cond t (parts (b.bits - p.bucket.bits) p.bucket b s p.ready ++ ps) (p ∷ split_at b s ps))
      by_test true e ih = IsLaid-parts (b.bits - p.bucket.bits) p.bucket b s p.ready lo ps h.1 (let m = vb.most in let l = covers-bits p.bucket b e in omega (arith, m, l)) h.0 h.2
      by_test false e ih = (h.0, h.1, ih)

  -- a piece inside the bucket ends no later, and begins no earlier
  pub inside_past : (b : Low) → IsBucket b → (lo : ℕ) (ps : List Piece) → IsLaid lo ps → list_any (is_inside b) ps ≡ true → lo ≤ last_path b
  inside_past b vb lo [] h i = cc
  inside_past b vb lo (p ∷ ps) h i = by_test (covers b p.bucket) refl i (inside_past b vb (last_path p.bucket + 1) ps h.2)
    where
      by_test : (t : Bool) → covers b p.bucket ≡ t → t || list_any (is_inside b) ps ≡ true → (list_any (is_inside b) ps ≡ true → last_path p.bucket + 1 ≤ last_path b) → lo ≤ last_path b
      by_test true e f ih = let w = covers-first laws b p.bucket vb h.1 e in let l = h.0 in omega (arith, l, w.1)
      by_test false e f ih = let g = ih f in let l = h.0 in let o = first-last p.bucket in omega (arith, l, g, o)

  -- what is not inside begins past the end
  pub IsLaid-rest : (b : Low) → IsBucket b → (lo : ℕ) → first_path b < lo → (ps : List Piece) → IsLaid lo ps → IsLaid (last_path b + 1) (filter (λ q. not (covers b q.bucket)) ps)
  IsLaid-rest b vb lo lt [] h = tt
  IsLaid-rest b vb lo lt (p ∷ ps) h = by_test (covers b p.bucket) refl (IsLaid-rest b vb (last_path p.bucket + 1) (let f = h.0 in let o = first-last p.bucket in omega (arith, f, o, lt)) ps h.2)
    where
      test : Piece → Bool
      test q = not (covers b q.bucket)

      apart : covers b p.bucket ≡ false → meets b p.bucket ≡ false
      apart e = by_over (covers p.bucket b) refl
        where
          by_over : (t : Bool) → covers p.bucket b ≡ t → meets b p.bucket ≡ false
          by_over true f = absurd (let w = covers-first laws p.bucket b h.1 vb f in let l = h.0 in omega (arith, w.0, l, lt))
          by_over false f = ap₂ (λ x y. x || y) e f

      by_test : (t : Bool) → covers b p.bucket ≡ t → IsLaid (last_path b + 1) (filter test ps) → IsLaid (last_path b + 1) (cond (not t) (p ∷ filter test ps) (filter test ps))
      by_test true e ih = ih
      by_test false e ih =
          let below : first_path b ≤ last_path p.bucket = (let f = h.0 in let o = first-last p.bucket in omega (arith, f, o, lt)) in
          let past = not_meets-runs laws b p.bucket vb h.1 (apart e) below in
          ((omega (arith, past)), h.1, IsLaid-filter test (last_path p.bucket + 1) ps h.2)

  pub IsLaid-join : (b : Low) → IsBucket b → (s lo : ℕ) → lo ≤ first_path b → (ps : List Piece) → IsLaid lo ps → IsLaid lo (join_at b s ps)
  IsLaid-join b vb s lo le [] h = tt
  IsLaid-join b vb s lo le (p ∷ ps) h = by_test (covers b p.bucket) refl (λ l. IsLaid-join b vb s (last_path p.bucket + 1) l ps h.2)
    where
      head_past : list_any (is_inside b) ps ≡ true → covers b p.bucket ≡ false → last_path p.bucket + 1 ≤ first_path b
      head_past i e = by_over (covers p.bucket b) refl
        where
          later : last_path p.bucket + 1 ≤ last_path b
          later = inside_past b vb (last_path p.bucket + 1) ps h.2 i

          by_over : (t : Bool) → covers p.bucket b ≡ t → last_path p.bucket + 1 ≤ first_path b
          by_over true f = absurd (let w = covers-last laws p.bucket b h.1 vb f in omega (arith, w, later))
          by_over false f =
              let order = first-last p.bucket in
              let past = not_meets-runs laws p.bucket b h.1 vb (ap₂ (λ x y. x || y) f e) (omega (arith, later, order)) in
              omega (arith, past)

      by_test : (t : Bool) → covers b p.bucket ≡ t → (last_path p.bucket + 1 ≤ first_path b → IsLaid (last_path p.bucket + 1) (join_at b s ps))
          → IsLaid lo (cond t (record { bucket = b; serial = s; ready = p.ready || list_any (λ q. covers b q.bucket && q.ready) ps } ∷ filter (λ q. not (covers b q.bucket)) ps) (p ∷ join_at b s ps))
      by_test true e ih = (le, vb, IsLaid-rest b vb (last_path p.bucket + 1) (let w = covers-first laws b p.bucket vb h.1 e in let o = first-last p.bucket in omega (arith, w.0, o)) ps h.2)
      by_test false e ih = by_inside (list_any (is_inside b) ps) refl
        where
          by_inside : (t : Bool) → list_any (is_inside b) ps ≡ t → IsLaid lo (p ∷ join_at b s ps)
          by_inside true f = (h.0, h.1, ih (head_past f e))
          by_inside false f = (h.0, h.1, subst (IsLaid (last_path p.bucket + 1)) (sym (join_at-none b s ps f)) h.2)
