-- Places in a list, after an element is set, added at the end, or removed.
use Rattle.std.proofs.Common.{◌≡◌, ◌≢◌, ◌⊎◌, ◌<◌, ◌+◌, ℕ, zero, suc, List, [], ◌∷◌, ◌++◌, map, length, Option, Some, None, inl, inr, refl, sym, ap, ◌∙◌, subst, slice_get, slice_set, arith}
use Rattle.std.specs.List.{remove, slice_index_or}
use Rattle.std.proofs.lemmas.Option.{get_or_from_slice_get, slice_get-get_or}

-- where an element of the shorter list stood
abbrev pub skip : ℕ → ℕ → ℕ
skip zero k = suc k
skip (suc i) zero = zero
skip (suc i) (suc k) = suc (skip i k)

pub skip-off : (i k : ℕ) → skip i k ≢ i
skip-off zero k e = let f : suc k ≡ zero = e in cc
skip-off (suc i) zero e = let f : zero ≡ suc i = e in cc
skip-off (suc i) (suc k) e = skip-off i k (let f : suc (skip i k) ≡ suc i = e in cc)

pub skip-apart : (i k l : ℕ) → skip i k ≡ skip i l → k ≡ l
skip-apart zero k l e = let f : suc k ≡ suc l = e in cc
skip-apart (suc i) zero zero e = refl
skip-apart (suc i) zero (suc l) e = let f : zero ≡ suc (skip i l) = e in cc
skip-apart (suc i) (suc k) zero e = let f : suc (skip i k) ≡ zero = e in cc
skip-apart (suc i) (suc k) (suc l) e = ap suc (skip-apart i k l (let f : suc (skip i k) ≡ suc (skip i l) = e in cc))

pub skip-back : (i k : ℕ) → k ≢ i → (l : ℕ) × (skip i l ≡ k)
skip-back zero zero off = absurd (off refl)
skip-back zero (suc k) off = (k, refl)
skip-back (suc i) zero off = (zero, refl)
skip-back (suc i) (suc k) off = let s = skip-back i k (λ e. off (ap suc e)) in (suc s.0, ap suc s.1)

module _ {A : Type 0} where
  none-some : (x : A) → ◌≡◌ {A = Option A} None (Some x) → ⊥
  none-some x e = cc

  pub get-one : (xs : List A) (k : ℕ) (x y : A) → slice_get xs k ≡ Some x → slice_get xs k ≡ Some y → x ≡ y
  get-one xs k x y a b = let e : ◌≡◌ {A = Option A} (Some x) (Some y) = sym a ∙ b in cc

  -- what holds of the element at a place
  pub of-place : (P : A → Type 0) (xs : List A) (i : ℕ) (x : A) → slice_get xs i ≡ Some x → ((y : A) × (slice_get xs i ≡ Some y) × P y) → P x
  of-place P xs i x found h = subst P (get-one xs i h.0 x h.1 found) h.2

  -- what an index reads
  pub get-index : (xs : List A) (i : ℕ) (x : A) → i < length xs → x ≡ slice_index_or xs i x → slice_get xs i ≡ Some x
  get-index xs i x within e = slice_get-get_or xs i x within ∙ ap (λ (y : A). Some y) (sym e)

  pub index-get : (xs : List A) (i : ℕ) (x y : A) → slice_get xs i ≡ Some x → y ≡ slice_index_or xs i y → y ≡ x
  index-get xs i x y h e = e ∙ get_or_from_slice_get xs i x y h

  -- ---- set

  pub get-set : (xs : List A) (i : ℕ) (x y : A) → slice_get xs i ≡ Some x → slice_get (slice_set xs i y) i ≡ Some y
  get-set [] i x y h = absurd (none-some x h)
  get-set (z ∷ xs) zero x y h = refl
  get-set (z ∷ xs) (suc i) x y h = get-set xs i x y h

  pub get-set-cases : (xs : List A) (i k : ℕ) (y z : A) → slice_get (slice_set xs i y) k ≡ Some z → ((k ≡ i) × (z ≡ y)) ⊎ ((k ≢ i) × (slice_get xs k ≡ Some z))
  get-set-cases [] i k y z h = absurd (none-some z h)
  get-set-cases (x ∷ xs) zero zero y z h = let e : ◌≡◌ {A = Option A} (Some y) (Some z) = h in inl (refl, (cc))
  get-set-cases (x ∷ xs) zero (suc k) y z h = inr ((λ e. (let f : suc k ≡ zero = e in cc)), h)
  get-set-cases (x ∷ xs) (suc i) zero y z h = inr ((λ e. (let f : zero ≡ suc i = e in cc)), h)
  get-set-cases (x ∷ xs) (suc i) (suc k) y z h = elim (get-set-cases xs i k y z h) [
    | inl here ↦ inl (ap suc here.0, here.1)
    | inr off ↦ inr ((λ e. off.0 (let f : suc k ≡ suc i = e in cc)), off.1)
  ]

  pub get-set-off : (xs : List A) (i k : ℕ) (y z : A) → k ≢ i → slice_get xs k ≡ Some z → slice_get (slice_set xs i y) k ≡ Some z
  get-set-off [] i k y z off h = h
  get-set-off (x ∷ xs) zero zero y z off h = absurd (off refl)
  get-set-off (x ∷ xs) zero (suc k) y z off h = h
  get-set-off (x ∷ xs) (suc i) zero y z off h = h
  get-set-off (x ∷ xs) (suc i) (suc k) y z off h = get-set-off xs i k y z (λ e. off (ap suc e)) h

  pub set-length : (xs : List A) (i : ℕ) (y : A) → length (slice_set xs i y) ≡ length xs
  set-length [] i y = refl
  set-length (x ∷ xs) zero y = refl
  set-length (x ∷ xs) (suc i) y = ap suc (set-length xs i y)

  pub set-twice : (xs : List A) (i : ℕ) (y z : A) → slice_set (slice_set xs i y) i z ≡ slice_set xs i z
  set-twice [] i y z = refl
  set-twice (x ∷ xs) zero y z = refl
  set-twice (x ∷ xs) (suc i) y z = ap (λ (ys : List A). x ∷ ys) (set-twice xs i y z)

  pub get-within : (xs : List A) (i : ℕ) (x : A) → slice_get xs i ≡ Some x → i < length xs
  get-within [] i x h = absurd (none-some x h)
  get-within (z ∷ xs) zero x h = omega arith
  get-within (z ∷ xs) (suc i) x h = let b = get-within xs i x h in omega (arith, b)

  pub within-get : (xs : List A) (i : ℕ) → i < length xs → (x : A) × (slice_get xs i ≡ Some x)
  within-get [] i h = absurd (omega (arith, h))
  within-get (x ∷ xs) zero h = (x, refl)
  within-get (x ∷ xs) (suc i) h = within-get xs i (omega (arith, h))

  -- ---- one more

  pub get-old : (xs : List A) (y : A) (k : ℕ) (z : A) → slice_get xs k ≡ Some z → slice_get (xs ++ y ∷ []) k ≡ Some z
  get-old [] y k z h = absurd (none-some z h)
  get-old (x ∷ xs) y zero z h = h
  get-old (x ∷ xs) y (suc k) z h = get-old xs y k z h

  pub get-new : (xs : List A) (y : A) → slice_get (xs ++ y ∷ []) (length xs) ≡ Some y
  get-new [] y = refl
  get-new (x ∷ xs) y = get-new xs y

  pub get-push-cases : (xs : List A) (y : A) (k : ℕ) (z : A) → slice_get (xs ++ y ∷ []) k ≡ Some z → (slice_get xs k ≡ Some z) ⊎ ((k ≡ length xs) × (z ≡ y))
  get-push-cases [] y zero z h = let e : ◌≡◌ {A = Option A} (Some y) (Some z) = h in inr (refl, (cc))
  get-push-cases [] y (suc k) z h = absurd (none-some z h)
  get-push-cases (x ∷ xs) y zero z h = inl h
  get-push-cases (x ∷ xs) y (suc k) z h = elim (get-push-cases xs y k z h) [ inl old ↦ inl old | inr new ↦ inr (ap suc new.0, new.1) ]

  pub push-length : (xs : List A) (y : A) → length (xs ++ y ∷ []) ≡ length xs + 1
  push-length [] y = refl
  push-length (x ∷ xs) y = let s = push-length xs y in omega (arith, s)

  -- ---- one less

  pub get-remove : (xs : List A) (i k : ℕ) → slice_get (remove xs i) k ≡ slice_get xs (skip i k)
  get-remove [] zero k = refl
  get-remove [] (suc i) k = refl
  get-remove (x ∷ xs) zero k = refl
  get-remove (x ∷ xs) (suc i) zero = refl
  get-remove (x ∷ xs) (suc i) (suc k) = get-remove xs i k

  pub remove-length : (xs : List A) (i : ℕ) (x : A) → slice_get xs i ≡ Some x → length (remove xs i) + 1 ≡ length xs
  remove-length [] i x h = absurd (none-some x h)
  remove-length (z ∷ xs) zero x h = omega arith
  remove-length (z ∷ xs) (suc i) x h = let s = remove-length xs i x h in omega (arith, s)

-- ---- the same of each element

module _ {A B : Type 0} (f : A → B) where
  pub get-map : (xs : List A) (k : ℕ) (x : A) → slice_get xs k ≡ Some x → slice_get (map f xs) k ≡ Some (f x)
  get-map [] k x h = absurd (none-some x h)
  get-map (z ∷ xs) zero x h = let e : ◌≡◌ {A = Option A} (Some z) (Some x) = h in let same : z ≡ x = cc in ap (λ (y : A). Some (f y)) same
  get-map (z ∷ xs) (suc k) x h = get-map xs k x h

  pub get-map-back : (xs : List A) (k : ℕ) (y : B) → slice_get (map f xs) k ≡ Some y → (x : A) × (slice_get xs k ≡ Some x) × (y ≡ f x)
  get-map-back [] k y h = absurd (none-some y h)
  get-map-back (z ∷ xs) zero y h = let e : ◌≡◌ {A = Option B} (Some (f z)) (Some y) = h in (z, refl, (cc))
  get-map-back (z ∷ xs) (suc k) y h = get-map-back xs k y h

  pub map-set : (xs : List A) (i : ℕ) (y : A) → map f (slice_set xs i y) ≡ slice_set (map f xs) i (f y)
  map-set [] i y = refl
  map-set (x ∷ xs) zero y = refl
  map-set (x ∷ xs) (suc i) y = ap (λ (ys : List B). f x ∷ ys) (map-set xs i y)

  pub map-push : (xs : List A) (y : A) → map f (xs ++ y ∷ []) ≡ map f xs ++ f y ∷ []
  map-push [] y = refl
  map-push (x ∷ xs) y = ap (λ (ys : List B). f x ∷ ys) (map-push xs y)

  pub map-remove : (xs : List A) (i : ℕ) → map f (remove xs i) ≡ remove (map f xs) i
  map-remove [] zero = refl
  map-remove [] (suc i) = refl
  map-remove (x ∷ xs) zero = refl
  map-remove (x ∷ xs) (suc i) = ap (λ (ys : List B). f x ∷ ys) (map-remove xs i)
