-- Lists: counts, images, filters and places.
use Rattle.std.proofs.Common.{◌≡◌, ℕ, zero, suc, ◌+◌, ◌≤◌, Bool, true, false, not, ◌&&◌, List, [], ◌∷◌, map, cond, Some, None, refl, sym, ap, ap₂, ◌∙◌, arith, ◌<◌, inl, inr, ◌⊎◌, slice_index_or, filter, ◌≢◌, length, slice_set, get_or, slice_get}
use Rattle.std.specs.List.{AllByRecursion, count_by, list_any, remove}
use Rattle.std.specs.Prelude.{Contains}
use Rattle.std.proofs.lemmas.List.Sums.{sum_by-cons}
use Rattle.std.proofs.lemmas.Grind.{elements}
use Rattle.proof_basics.proofs.Tests.{or_true, or_left, or_right, is_false, clash}

-- 1 where a test holds
abbrev pub one_if : Bool → ℕ
one_if b = cond b 1 0

pub count_cons : {X : Type 0} (p : X → Bool) (x : X) (xs : List X) → count_by p (x ∷ xs) ≡ cond (p x) 1 0 + count_by p xs
count_cons p x xs = sum_by-cons (λ y. cond (p y) 1 0) x xs

-- an element that passes counts
pub count_at : {X : Type 0} (p : X → Bool) (xs : List X) (i : ℕ) (x : X) → slice_get xs i ≡ Some x → p x ≡ true → 1 ≤ count_by p xs
count_at p [] i x at h = let e : None ≡ Some x = at in cc
count_at p (y ∷ ys) zero x at h =
    let same : y ≡ x = let e : Some y ≡ Some x = at in cc in
    let one : one_if (p y) ≡ 1 = ap (λ z. one_if (p z)) same ∙ ap one_if h in
    omega (arith, count_cons p y ys, one)
count_at p (y ∷ ys) (suc i) x at h = omega (arith, count_cons p y ys, count_at p ys i x at h)

pub all_map : {X : Type 0} (P Q : X → Type 0) (xs : List X) → ((x : X) → P x → Q x) → AllByRecursion P xs → AllByRecursion Q xs
all_map P Q [] f h = tt
all_map P Q (x ∷ xs) f h = (f x h.0, all_map P Q xs f h.1)

pub count_none : {X : Type 0} (p : X → Bool) (xs : List X) → ((x : X) → p x ≡ true → ⊥) → count_by p xs ≡ 0
count_none p [] none = refl
count_none p (x ∷ xs) none = count_cons p x xs ∙ ap₂ (λ a b. a + b) (unseen (p x) (none x)) (count_none p xs none)
  where
    unseen : (b : Bool) → (b ≡ true → ⊥) → one_if b ≡ 0
    unseen true f = absurd (f refl)
    unseen false f = refl

-- what counts passes the other test or stays when what passes it goes
pub count_parts : {X : Type 0} (p q : X → Bool) (xs : List X) → count_by p xs ≡ count_by (λ x. q x && p x) xs + count_by p (filter (λ x. not (q x)) xs)
count_parts p q [] = refl
count_parts {X} p q (x ∷ xs) =
    count_cons p x xs ∙ ap (λ n. one_if (p x) + n) (count_parts p q xs) ∙ go (q x) ∙ ap (λ n. n + count_by p (filter (λ y. not (q y)) (x ∷ xs))) (sym (count_cons (λ y. q y && p y) x xs))
  where
    rest : List X
    rest = filter (λ y. not (q y)) xs

    both : ℕ
    both = count_by (λ y. q y && p y) xs

    go : (b : Bool) → one_if (p x) + (both + count_by p rest) ≡ (one_if (b && p x) + both) + count_by p (cond (not b) (x ∷ rest) rest)
    go true = omega arith
    go false = omega (arith, count_cons p x rest)

pub contains-one : {A : Type 0} (x y : A) → Contains (x ∷ []) y → x ≡ y
contains-one x y h = by_place h.0 h.1 h.2
  where
    by_place : (k : ℕ) → k < 1 → slice_index_or (x ∷ []) k y ≡ y → x ≡ y
    by_place zero lt e = e
    by_place (suc k) lt e = absurd (omega arith)

pub contains-none : {A : Type 0} (y : A) → Contains {X = A} [] y → ⊥
contains-none y h = let lt = h.1 in absurd (omega arith)

-- what passes a test passes a wider one
pub any-map : {X : Type 0} (p q : X → Bool) (xs : List X) → ((x : X) → p x ≡ true → q x ≡ true) → list_any p xs ≡ true → list_any q xs ≡ true
any-map p q [] f h = cc
any-map p q (x ∷ xs) f h = elim (or_true (p x) (list_any p xs) h) [ inl here ↦ or_left (q x) (list_any q xs) (f x here) | inr later ↦ or_right (q x) (list_any q xs) (any-map p q xs f later) ]

pub none-map : {X : Type 0} (p q : X → Bool) (xs : List X) → ((x : X) → q x ≡ true → p x ≡ true) → list_any p xs ≡ false → list_any q xs ≡ false
none-map p q xs f h = is_false (list_any q xs) (λ t. clash (any-map q p xs f t) h)

pub set-own : {X : Type 0} (xs : List X) (i : ℕ) (y z : X) → i < length xs → get_or (slice_set xs i y) i z ≡ y
set-own xs i y z h = grind (arith, elements)

pub set-other : {X : Type 0} (xs : List X) (i n : ℕ) (y z : X) → n ≢ i → get_or (slice_set xs i y) n z ≡ get_or xs n z
set-other xs i n y z h = grind (arith, elements)

pub left_at : {X : Type 0} (xs : List X) (at j : ℕ) (x : X) → slice_get (remove xs at) j ≡ Some x → ((slice_get xs j ≡ Some x) × (j < at)) ⊎ ((slice_get xs (suc j) ≡ Some x) × (at ≤ j))
left_at [] zero j x h = cc
left_at [] (suc at) j x h = cc
left_at (y ∷ ys) zero j x h = inr (h, omega arith)
left_at (y ∷ ys) (suc at) zero x h = inl (h, omega arith)
left_at (y ∷ ys) (suc at) (suc j) x h = elim (left_at ys at j x h) [ inl e ↦ (let less = e.1 in inl (e.0, omega (arith, less))) | inr e ↦ (let le = e.1 in inr (e.0, omega (arith, le))) ]

pub filter_at : {X : Type 0} (p : X → Bool) (xs : List X) (k : ℕ) (x : X) → slice_get (filter p xs) k ≡ Some x → (j : ℕ) × (slice_get xs j ≡ Some x) × (p x ≡ true)
filter_at p [] k x e = cc
filter_at {X} p (y ∷ ys) k x e = by_test (p y) refl k e (λ i. filter_at p ys i x)
  where
    by_test : (t : Bool) → p y ≡ t → (k : ℕ) → slice_get (cond t (y ∷ filter p ys) (filter p ys)) k ≡ Some x → ((i : ℕ) → slice_get (filter p ys) i ≡ Some x → (j : ℕ) × (slice_get ys j ≡ Some x) × (p x ≡ true)) → (j : ℕ) × (slice_get (y ∷ ys) j ≡ Some x) × (p x ≡ true)
    by_test true is zero f ih = let h : y ≡ x = cc in (0, f, ap p (sym h) ∙ is)
    by_test true is (suc k) f ih = let z = ih k f in (suc z.0, z.1, z.2)
    by_test false is k f ih = let z = ih k f in (suc z.0, z.1, z.2)

pub same_images : {X Y : Type 0} (f g : X → Y) (xs : List X) → ((k : ℕ) (x : X) → slice_get xs k ≡ Some x → f x ≡ g x) → map f xs ≡ map g xs
same_images f g [] h = refl
same_images f g (x ∷ xs) h = ap₂ (λ y ys. y ∷ ys) (h 0 x refl) (same_images f g xs (λ k z e. h (suc k) z e))

pub image_at : {X Y : Type 0} (f : X → Y) (xs : List X) (k : ℕ) (x : X) → slice_get xs k ≡ Some x → slice_get (map f xs) k ≡ Some (f x)
image_at f [] k x h = cc
image_at f (y ∷ ys) zero x h = let same : y ≡ x = cc in ap (λ z. Some (f z)) same
image_at f (y ∷ ys) (suc k) x h = image_at f ys k x h

pub of_image : {X Y : Type 0} (f : X → Y) (xs : List X) (k : ℕ) (y : Y) → slice_get (map f xs) k ≡ Some y → (x : X) × (slice_get xs k ≡ Some x) × (y ≡ f x)
of_image f [] k y h = cc
of_image f (x ∷ xs) zero y h = let same : f x ≡ y = cc in (x, refl, sym same)
of_image f (x ∷ xs) (suc k) y h = of_image f xs k y h
