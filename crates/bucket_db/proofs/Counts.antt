-- Counts and tests of lists.
use Rattle.std.proofs.Common.{◌≡◌, ℕ, zero, suc, ◌+◌, ◌≤◌, Bool, true, false, ◌||◌, List, [], ◌∷◌, ◌++◌, map, cond, Some, None, refl, sym, ap, ◌∙◌, arith}
use Rattle.std.specs.List.{AllByRecursion, count_by, filter, list_any}
use Rattle.std.specs.Prelude.{slice_get}
use Rattle.std.proofs.lemmas.List.Sums.{sum_by-append}
use Rattle.proof_basics.proofs.Lists.{one_if, count_cons, count_at}

pub count_append : {X : Type 0} (p : X → Bool) (xs ys : List X) → count_by p (xs ++ ys) ≡ count_by p xs + count_by p ys
count_append p xs ys = sum_by-append (λ y. cond (p y) 1 0) xs ys

pub count_map : {X Y : Type 0} (p : Y → Bool) (f : X → Y) (xs : List X) → count_by p (map f xs) ≡ count_by (λ x. p (f x)) xs
count_map p f [] = refl
count_map p f (x ∷ xs) = count_cons p (f x) (map f xs) ∙ ap (λ n. cond (p (f x)) 1 0 + n) (count_map p f xs) ∙ sym (count_cons (λ y. p (f y)) x xs)

pub count_one : {X : Type 0} (p : X → Bool) (x : X) → count_by p (x ∷ []) ≡ cond (p x) 1 0
count_one p x = count_cons p x [] ∙ none (p x)
  where
    none : (b : Bool) → cond b 1 0 + 0 ≡ cond b 1 0
    none true = refl
    none false = refl

-- one that counts once stands at one place
pub count_once : {X : Type 0} (p : X → Bool) (xs : List X) (i j : ℕ) (x y : X) → count_by p xs ≤ 1
    → slice_get xs i ≡ Some x → slice_get xs j ≡ Some y → p x ≡ true → p y ≡ true → i ≡ j
count_once p [] i j x y one at to h k = let e : None ≡ Some x = at in cc
count_once p (z ∷ zs) zero zero x y one at to h k = refl
count_once p (z ∷ zs) zero (suc j) x y one at to h k =
    let same : z ≡ x = let e : Some z ≡ Some x = at in cc in
    let here : one_if (p z) ≡ 1 = ap (λ w. one_if (p w)) same ∙ ap one_if h in
    absurd (omega (arith, count_cons p z zs, here, count_at p zs j y to k, one))
count_once p (z ∷ zs) (suc i) zero x y one at to h k =
    let same : z ≡ y = let e : Some z ≡ Some y = to in cc in
    let here : one_if (p z) ≡ 1 = ap (λ w. one_if (p w)) same ∙ ap one_if k in
    absurd (omega (arith, count_cons p z zs, here, count_at p zs i x at h, one))
count_once p (z ∷ zs) (suc i) (suc j) x y one at to h k =
    ap suc (count_once p zs i j x y (omega (arith, count_cons p z zs, one)) at to h k)

-- a place whose element passes
abbrev pub Passes : {X : Type 0} → (X → Bool) → List X → Type 0
Passes {X} p xs = (i : ℕ) × ((x : X) × (slice_get xs i ≡ Some x) × (p x ≡ true))

-- where the count isn't 0 one passes
pub count_found : {X : Type 0} (p : X → Bool) (xs : List X) → 1 ≤ count_by p xs → Passes p xs
count_found p [] h = absurd (omega (arith, h))
count_found {X} p (x ∷ xs) h = go (p x) refl (omega (arith, count_cons p x xs, h)) (count_found p xs)
  where
    go : (b : Bool) → b ≡ p x → 1 ≤ one_if (p x) + count_by p xs → (1 ≤ count_by p xs → Passes p xs) → Passes p (x ∷ xs)
    go true e k ih = (0, (x, refl, sym e))
    go false e k ih =
        let none : one_if (p x) ≡ 0 = ap one_if (sym e) in
        let more = ih (omega (arith, none, k)) in
        (suc more.0, (more.1.0, more.1.1, more.1.2))

pub or_left : (a b : Bool) → a ≡ true → (a || b) ≡ true
or_left true b e = refl
or_left false b e = let f : false ≡ true = e in cc

pub or_right : (a b : Bool) → b ≡ true → (a || b) ≡ true
or_right true b e = refl
or_right false b e = e

pub all_append : {X : Type 0} (P : X → Type 0) (xs ys : List X) → AllByRecursion P xs → AllByRecursion P ys → AllByRecursion P (xs ++ ys)
all_append P [] ys h k = k
all_append P (x ∷ xs) ys h k = (h.0, all_append P xs ys h.1 k)

-- a filter that keeps what a test finds doesn't change the answer
pub any_filter : {X : Type 0} (p q : X → Bool) (xs : List X) → ((x : X) → q x ≡ true → p x ≡ true) → list_any q (filter p xs) ≡ list_any q xs
any_filter p q [] f = refl
any_filter {X} p q (x ∷ xs) f = go (p x) (f x) (any_filter p q xs f)
  where
    passed : (b : Bool) → (b ≡ true → false ≡ true) → list_any q (filter p xs) ≡ list_any q xs → list_any q (filter p xs) ≡ (b || list_any q xs)
    passed true g e = let h : false ≡ true = g refl in cc
    passed false g e = e

    go : (b : Bool) → (q x ≡ true → b ≡ true) → list_any q (filter p xs) ≡ list_any q xs → list_any q (cond b (x ∷ filter p xs) (filter p xs)) ≡ (q x || list_any q xs)
    go true g e = ap (λ r. q x || r) e
    go false g e = passed (q x) g e
