-- Rows of a list that change, come and go in rising number.
use Rattle.std.proofs.Common.{◌≡◌, ◌||◌, not, ◌<◌, ◌≤◌, ℕ, zero, suc, Bool, true, false, cond, nat_lt, List, [], ◌∷◌, length, Some, None, slice_get, slice_set, refl, sym, ap, ◌∙◌, subst, arith, ◌⊎◌, inl, inr}
use Rattle.std.specs.List.{list_any, remove}
use Rattle.std.proofs.lemmas.Bool.{cases_lt}
use Rattle.bucket_ids.specs.Buckets.{Low, IsBucket}
use Rattle.bucket_ids.specs.Printed.{number_of}
use Rattle.pieces.specs.Pieces.{meets}
use Rattle.pass_model.specs.Rows.{Row}
use Rattle.pass_model.specs.Passes.{AllRows, In}
use Rattle.pass_model.specs.Resting.{AreApart}
use Rattle.pass_model.specs.Sweeps.{Rises, with_row, Before}
use Rattle.pass_model.specs.Turns.{place_where, place_of}
use Rattle.proof_basics.proofs.Numbers.{lt-of, ge-of, lt-to, ge-to}

-- ---- a row of a place changes

pub set-same : (rows : List Row) (at : ℕ) (r : Row) → slice_get rows at ≡ Some r → slice_set rows at r ≡ rows
set-same [] at r h = cc
set-same (q ∷ qs) zero r h = let same : q ≡ r = cc in ap (λ (x : Row). x ∷ qs) (sym same)
set-same (q ∷ qs) (suc at) r h = ap (λ xs. q ∷ xs) (set-same qs at r h)

pub set-get : (rows : List Row) (at : ℕ) (r q : Row) → slice_get rows at ≡ Some r → slice_get (slice_set rows at q) at ≡ Some q
set-get [] at r q h = cc
set-get (x ∷ xs) zero r q h = refl
set-get (x ∷ xs) (suc at) r q h = set-get xs at r q h

pub set-set : (rows : List Row) (at : ℕ) (q x : Row) → slice_set (slice_set rows at q) at x ≡ slice_set rows at x
set-set [] at q x = refl
set-set (y ∷ ys) zero q x = refl
set-set (y ∷ ys) (suc at) q x = ap (λ xs. y ∷ xs) (set-set ys at q x)

pub all-set : (Q : Row → Type 0) (rows : List Row) (at : ℕ) (q : Row) → Q q → AllRows Q rows → AllRows Q (slice_set rows at q)
all-set Q [] at q h all = tt
all-set Q (x ∷ xs) zero q h all = (h, all.1)
all-set Q (x ∷ xs) (suc at) q h all = (all.0, all-set Q xs at q h all.1)

pub all-at : (Q : Row → Type 0) (rows : List Row) (at : ℕ) (r : Row) → slice_get rows at ≡ Some r → AllRows Q rows → Q r
all-at Q [] at r h all = cc
all-at Q (x ∷ xs) zero r h all = let same : x ≡ r = cc in subst Q same all.0
all-at Q (x ∷ xs) (suc at) r h all = all-at Q xs at r h all.1

pub before-set : (Q : Row → Type 0) (rows : List Row) (at : ℕ) (q : Row) → Before Q at rows → Before Q at (slice_set rows at q)
before-set Q rows zero q b = tt
before-set Q [] (suc at) q b = b
before-set Q (x ∷ xs) (suc at) q b = (b.0, before-set Q xs at q b.1)

pub before-at : (Q : Row → Type 0) (rows : List Row) (at i : ℕ) (r : Row) → Before Q at rows → i < at → slice_get rows i ≡ Some r → Q r
before-at Q [] at i r b less h = cc
before-at Q (x ∷ xs) zero i r b less h = absurd (omega arith)
before-at Q (x ∷ xs) (suc at) zero r b less h = let same : x ≡ r = cc in subst Q same b.0
before-at Q (x ∷ xs) (suc at) (suc i) r b less h = before-at Q xs at i r b.1 (omega arith) h

pub none-at : (rows : List Row) (at : ℕ) → slice_get rows at ≡ None → length rows ≤ at
none-at [] at h = omega arith
none-at (x ∷ xs) zero h = cc
none-at (x ∷ xs) (suc at) h = let le = none-at xs at h in omega (arith, le)

-- and keeps its bucket
any-set : (T : Low → Bool) (rows : List Row) (at : ℕ) (r q : Row) → slice_get rows at ≡ Some r → q.bucket ≡ r.bucket → list_any (λ (x : Row). T x.bucket) (slice_set rows at q) ≡ list_any (λ (x : Row). T x.bucket) rows
any-set T [] at r q h e = cc
any-set T (x ∷ xs) zero r q h e = let same : x ≡ r = cc in ap (λ (b : Low). T b || list_any (λ (y : Row). T y.bucket) xs) (e ∙ sym (ap (λ (y : Row). y.bucket) same))
any-set T (x ∷ xs) (suc at) r q h e = ap (λ t. T x.bucket || t) (any-set T xs at r q h e)

pub rises-set : (least : ℕ) (rows : List Row) (at : ℕ) (r q : Row) → slice_get rows at ≡ Some r → q.bucket ≡ r.bucket → Rises least rows → Rises least (slice_set rows at q)
rises-set least [] at r q h e up = cc
rises-set least (x ∷ xs) zero r q h e up =
    let same : x ≡ r = cc in
    subst (λ (b : Low). (least ≤ number_of b) × Rises (number_of b) xs) (ap (λ (y : Row). y.bucket) same ∙ sym e) up
rises-set least (x ∷ xs) (suc at) r q h e up = (up.0, rises-set (number_of x.bucket) xs at r q h e up.1)

pub apart-set : (rows : List Row) (at : ℕ) (r q : Row) → slice_get rows at ≡ Some r → q.bucket ≡ r.bucket → AreApart rows → AreApart (slice_set rows at q)
apart-set [] at r q h e a = cc
apart-set (x ∷ xs) zero r q h e a =
    let same : x ≡ r = cc in
    subst (λ (b : Low). (list_any (λ (y : Row). meets y.bucket b) xs ≡ false) × IsBucket b × AreApart xs) (ap (λ (y : Row). y.bucket) same ∙ sym e) a
apart-set (x ∷ xs) (suc at) r q h e a = (any-set (λ b. meets b x.bucket) xs at r q h e ∙ a.0, a.1, apart-set xs at r q h e a.2)

-- ---- rows come and go

rises-weaker : (m n : ℕ) (rows : List Row) → m ≤ n → Rises n rows → Rises m rows
rises-weaker m n [] le up = tt
rises-weaker m n (r ∷ rs) le up = ((let x = up.0 in omega (arith, le, x)), up.1)

pub rises-removed : (least at : ℕ) (rows : List Row) → Rises least rows → Rises least (remove rows at)
rises-removed least zero [] up = tt
rises-removed least (suc at) [] up = tt
rises-removed least zero (r ∷ rs) up = rises-weaker least (number_of r.bucket) rs up.0 up.1
rises-removed least (suc at) (r ∷ rs) up = (up.0, rises-removed (number_of r.bucket) at rs up.1)

pub rises-placed : (least : ℕ) (x : Row) (rows : List Row) → least ≤ number_of x.bucket → Rises least rows → Rises least (with_row x rows)
rises-placed least x [] le up = (le, tt)
rises-placed least x (y ∷ ys) le up = by_test (nat_lt (number_of y.bucket) (number_of x.bucket)) refl (λ h. rises-placed (number_of y.bucket) x ys h up.1)
  where
    by_test : (t : Bool) → nat_lt (number_of y.bucket) (number_of x.bucket) ≡ t → (number_of y.bucket ≤ number_of x.bucket → Rises (number_of y.bucket) (with_row x ys)) → Rises least (cond t (y ∷ with_row x ys) (x ∷ y ∷ ys))
    by_test true e ih = (up.0, ih (let l = lt-of (number_of y.bucket) (number_of x.bucket) e in omega (arith, l)))
    by_test false e ih = (le, (ge-of (number_of y.bucket) (number_of x.bucket) e, up.1))

-- ---- the place of a bucket

pub get-placed : (x : Row) (rows : List Row) → slice_get (with_row x rows) (place_of x.bucket (with_row x rows)) ≡ Some x
get-placed x [] = ap (λ t. slice_get (x ∷ []) (cond (not t) 0 (suc 0))) (ge-to (number_of x.bucket) (number_of x.bucket) (omega arith))
get-placed x (z ∷ zs) = by_test (nat_lt (number_of z.bucket) (number_of x.bucket)) refl (get-placed x zs)
  where
    by_test : (t : Bool) → nat_lt (number_of z.bucket) (number_of x.bucket) ≡ t → slice_get (with_row x zs) (place_of x.bucket (with_row x zs)) ≡ Some x
        → slice_get (cond t (z ∷ with_row x zs) (x ∷ z ∷ zs)) (place_of x.bucket (cond t (z ∷ with_row x zs) (x ∷ z ∷ zs))) ≡ Some x
    by_test true e ih = ap (λ u. slice_get (z ∷ with_row x zs) (cond (not u) 0 (suc (place_of x.bucket (with_row x zs))))) e ∙ ih
    by_test false e ih = ap (λ u. slice_get (x ∷ z ∷ zs) (cond (not u) 0 (suc (place_of x.bucket (z ∷ zs))))) (ge-to (number_of x.bucket) (number_of x.bucket) (omega arith))

pub set-placed : (x y : Row) (rows : List Row) → y.bucket ≡ x.bucket → slice_set (with_row x rows) (place_of x.bucket (with_row x rows)) y ≡ with_row y rows
set-placed x y [] same = ap (λ t. slice_set (x ∷ []) (cond (not t) 0 (suc 0)) y) (ge-to (number_of x.bucket) (number_of x.bucket) (omega arith))
set-placed x y (z ∷ zs) same =
    by_test (nat_lt (number_of z.bucket) (number_of x.bucket)) refl (ap (λ (b : Low). nat_lt (number_of z.bucket) (number_of b)) same) (set-placed x y zs same)
  where
    by_test : (t : Bool) → nat_lt (number_of z.bucket) (number_of x.bucket) ≡ t → nat_lt (number_of z.bucket) (number_of y.bucket) ≡ nat_lt (number_of z.bucket) (number_of x.bucket)
        → slice_set (with_row x zs) (place_of x.bucket (with_row x zs)) y ≡ with_row y zs
        → slice_set (cond t (z ∷ with_row x zs) (x ∷ z ∷ zs)) (place_of x.bucket (cond t (z ∷ with_row x zs) (x ∷ z ∷ zs))) y ≡ cond (nat_lt (number_of z.bucket) (number_of y.bucket)) (z ∷ with_row y zs) (y ∷ z ∷ zs)
    by_test true e f ih =
        ap (λ u. slice_set (z ∷ with_row x zs) (cond (not u) 0 (suc (place_of x.bucket (with_row x zs)))) y) e
        ∙ (ap (λ xs. z ∷ xs) ih ∙ sym (ap (λ u. cond u (z ∷ with_row y zs) (y ∷ z ∷ zs)) (f ∙ e)))
    by_test false e f ih =
        ap (λ u. slice_set (x ∷ z ∷ zs) (cond (not u) 0 (suc (place_of x.bucket (z ∷ zs)))) y) (ge-to (number_of x.bucket) (number_of x.bucket) (omega arith))
        ∙ sym (ap (λ u. cond u (z ∷ with_row y zs) (y ∷ z ∷ zs)) (f ∙ e))

placed-later : (x z : Row) (zs : List Row) → number_of z.bucket < number_of x.bucket → with_row x (z ∷ zs) ≡ z ∷ with_row x zs
placed-later x z zs h = ap (λ u. cond u (z ∷ with_row x zs) (x ∷ z ∷ zs)) (lt-to (number_of z.bucket) (number_of x.bucket) h)

placed-here : (x z : Row) (zs : List Row) → number_of x.bucket ≤ number_of z.bucket → with_row x (z ∷ zs) ≡ x ∷ z ∷ zs
placed-here x z zs h = ap (λ u. cond u (z ∷ with_row x zs) (x ∷ z ∷ zs)) (ge-to (number_of z.bucket) (number_of x.bucket) h)

-- which of two rows comes first doesn't matter
pub placed-swap : (x y : Row) (rows : List Row) → number_of x.bucket < number_of y.bucket → with_row y (with_row x rows) ≡ with_row x (with_row y rows)
placed-swap x y [] less = placed-later y x [] less ∙ sym (placed-here x y [] (omega (arith, less)))
placed-swap x y (z ∷ zs) less = by_x (cases_lt (number_of z.bucket) (number_of x.bucket)) (cases_lt (number_of z.bucket) (number_of y.bucket)) (placed-swap x y zs less)
  where
    by_x : (number_of z.bucket < number_of x.bucket) ⊎ (number_of x.bucket ≤ number_of z.bucket) → (number_of z.bucket < number_of y.bucket) ⊎ (number_of y.bucket ≤ number_of z.bucket)
        → with_row y (with_row x zs) ≡ with_row x (with_row y zs) → with_row y (with_row x (z ∷ zs)) ≡ with_row x (with_row y (z ∷ zs))
    by_x (inl a) (inl b) ih =
        ap (with_row y) (placed-later x z zs a) ∙ (placed-later y z (with_row x zs) b
        ∙ (ap (λ xs. z ∷ xs) ih ∙ (sym (placed-later x z (with_row y zs) a) ∙ sym (ap (with_row x) (placed-later y z zs b)))))
    by_x (inl a) (inr b) ih = absurd (omega (arith, a, b, less))
    by_x (inr a) (inl b) ih =
        ap (with_row y) (placed-here x z zs a) ∙ (placed-later y x (z ∷ zs) less
        ∙ (ap (λ xs. x ∷ xs) (placed-later y z zs b) ∙ (sym (placed-here x z (with_row y zs) a) ∙ sym (ap (with_row x) (placed-later y z zs b)))))
    by_x (inr a) (inr b) ih =
        ap (with_row y) (placed-here x z zs a) ∙ (placed-later y x (z ∷ zs) less
        ∙ (ap (λ xs. x ∷ xs) (placed-here y z zs b) ∙ (sym (placed-here x y (z ∷ zs) (omega (arith, less))) ∙ sym (ap (with_row x) (placed-here y z zs b)))))

-- ---- the first row that is so

pub where-found : (T : Row → Bool) (rows : List Row) (r : Row) → slice_get rows (place_where T rows) ≡ Some r → T r ≡ true
where-found T [] r h = cc
where-found T (x ∷ xs) r h = by_test (T x) refl h (λ g. where-found T xs r g)
  where
    by_test : (t : Bool) → T x ≡ t → slice_get (x ∷ xs) (cond t 0 (suc (place_where T xs))) ≡ Some r → (slice_get xs (place_where T xs) ≡ Some r → T r ≡ true) → T r ≡ true
    by_test true e h ih = let same : x ≡ r = cc in subst (λ (y : Row). T y ≡ true) same e
    by_test false e h ih = ih h

pub where-none : (T : Row → Bool) (rows : List Row) → slice_get rows (place_where T rows) ≡ None → (x : Row) → In x rows → T x ≡ false
where-none T [] h x i = absurd i
where-none T (y ∷ ys) h x i = by_test (T y) refl h i (λ g j. where-none T ys g x j)
  where
    by_test : (t : Bool) → T y ≡ t → slice_get (y ∷ ys) (cond t 0 (suc (place_where T ys))) ≡ None → (x ≡ y) ⊎ In x ys → (slice_get ys (place_where T ys) ≡ None → In x ys → T x ≡ false) → T x ≡ false
    by_test true e h i ih = cc
    by_test false e h (inl same) ih = subst (λ (q : Row). T q ≡ false) (sym same) e
    by_test false e h (inr j) ih = ih h j
