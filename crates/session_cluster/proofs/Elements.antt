-- Lists in which a loop writes one element after the other.
use Rattle.std.proofs.Common.{◌≡◌, ◌≢◌, ◌⊎◌, ◌++◌, ◌<◌, ◌≤◌, ◌+◌, ℕ, zero, suc, List, [], ◌∷◌, Some, inl, inr, map, take, drop, set, length, slice_get, slice_index_or, refl, sym, ap, ◌∙◌, subst, arith}
use Rattle.std.proofs.lemmas.Option.{slice_get_within}
use Rattle.std.proofs.lemmas.List.{map-append, take-append-drop}
use Rattle.std.proofs.lemmas.List.Edits.{map_over_more}
use Rattle.std.proofs.Math.Seq.{map-set_same}

some_is : {X : Type 0} {x y : X} → Some x ≡ Some y → x ≡ y
some_is e = cc

-- one element more is what f makes of it
pub each_more : {X : Type 0} (f : X → X) (xs ys : List X) (i : ℕ) (x y : X) → i < length xs → ys ≡ map f (take i xs) ++ drop i xs → x ≡ slice_index_or ys i x → y ≡ f (slice_index_or ys i x) → set ys i y ≡ map f (take (i + 1) xs) ++ drop (i + 1) xs
each_more f xs ys i x y below so is now = ap (set ys i) (now ∙ ap f (sym is)) ∙ map_over_more f xs ys i x below so is

-- the next element is as it was
next_is : {X : Type 0} (f : X → X) (xs : List X) (i : ℕ) (d : X) → i < length xs → slice_get xs i ≡ Some (slice_index_or (map f (take i xs) ++ drop i xs) i d)
next_is f [] i d h = absurd (omega (arith, h))
next_is f (x ∷ xs) zero d h = refl
next_is f (x ∷ xs) (suc i) d h = next_is f xs i d (omega (arith, h))

pub each_there : {X : Type 0} (f : X → X) (xs ys : List X) (i : ℕ) (x : X) → i < length xs → ys ≡ map f (take i xs) ++ drop i xs → x ≡ slice_index_or ys i x → slice_get xs i ≡ Some x
each_there f xs ys i x below so is = next_is f xs i x below ∙ ap Some (ap (λ zs. slice_index_or zs i x) (sym so) ∙ sym is)

pub seen_map : {X : Type 0} (f g : X → X) → ((x : X) → g (f x) ≡ g x) → (xs : List X) → map g (map f xs) ≡ map g xs
seen_map f g same [] = refl
seen_map f g same (x ∷ xs) = ap (λ y. y ∷ map g (map f xs)) (same x) ∙ ap (λ l. g x ∷ l) (seen_map f g same xs)

-- what g sees of each stays, where f changes nothing of it
pub seen_same : {X : Type 0} (f g : X → X) (xs ys : List X) (i : ℕ) (x y : X) → ((x : X) → g (f x) ≡ g x) → ys ≡ map f (take i xs) ++ drop i xs → g y ≡ g (slice_index_or ys i x) → map g (set ys i y) ≡ map g xs
seen_same f g xs ys i x y same so now =
    map-set_same g ys i y x now
    ∙ ap (map g) so ∙ map-append g (map f (take i xs)) (drop i xs)
    ∙ ap (λ l. l ++ map g (drop i xs)) (seen_map f g same (take i xs))
    ∙ sym (map-append g (take i xs) (drop i xs)) ∙ ap (map g) (take-append-drop i xs)

-- an element of a list in which one is another
pub element_set : {X : Type 0} (xs : List X) (at k : ℕ) (w v : X) → slice_get (set xs at w) k ≡ Some v → ((at ≡ k) × (w ≡ v)) ⊎ ((at ≢ k) × (slice_get xs k ≡ Some v))
element_set [] at k w v h = cc h
element_set (x ∷ xs) zero zero w v h = inl (refl, some_is h)
element_set (x ∷ xs) zero (suc k) w v h = inr (λ e. absurd (omega (arith, e)), h)
element_set (x ∷ xs) (suc at) zero w v h = inr (λ e. absurd (omega (arith, e)), h)
element_set (x ∷ xs) (suc at) (suc k) w v h = elim (element_set xs at k w v h) [
  | inl here ↦ inl (omega (arith, here.0), here.1)
  | inr there ↦ inr (λ e. there.0 (omega (arith, e)), there.1)
]

-- so many elements are such ones
abbrev pub Below : {X : Type 0} → (X → Type 0) → ℕ → List X → Type 0
Below {X} P n xs = (k : ℕ) (v : X) → k < n → slice_get xs k ≡ Some v → P v

pub below_none : {X : Type 0} (P : X → Type 0) (xs : List X) → Below P 0 xs
below_none P xs k v h at = absurd (omega (arith, h))

pub below_set : {X : Type 0} (P : X → Type 0) (n : ℕ) (xs : List X) (y : X) → Below P n xs → P y → Below P (n + 1) (set xs n y)
below_set P n xs y are is k v h at = elim (element_set xs n k y v at) [
  | inl here ↦ subst P here.1 is
  | inr there ↦ are k v (omega (arith, h, there.0)) there.1
]

pub below_all : {X : Type 0} (P : X → Type 0) (n : ℕ) (xs : List X) → Below P n xs → length xs ≤ n → (k : ℕ) (v : X) → slice_get xs k ≡ Some v → P v
below_all P n xs are all k v at = let within = slice_get_within xs k v at in are k v (omega (arith, within, all)) at

-- an element of a list in which each is what f makes of another
pub element_map : {X Y : Type 0} (f : X → Y) (xs : List X) (k : ℕ) (v : Y) → slice_get (map f xs) k ≡ Some v → (x : X) × ((slice_get xs k ≡ Some x) × (v ≡ f x))
element_map f [] k v h = cc h
element_map f (x ∷ xs) zero v h = (x, (refl, sym (some_is h)))
element_map f (x ∷ xs) (suc k) v h = element_map f xs k v h

pub map_there : {X Y : Type 0} (f : X → Y) (xs : List X) (k : ℕ) (x : X) → slice_get xs k ≡ Some x → slice_get (map f xs) k ≡ Some (f x)
map_there f [] k x h = cc h
map_there f (y ∷ xs) zero x h = ap (λ z. Some (f z)) (some_is h)
map_there f (y ∷ xs) (suc k) x h = map_there f xs k x h

pub set_there : {X : Type 0} (xs : List X) (k : ℕ) (w : X) → k < length xs → slice_get (set xs k w) k ≡ Some w
set_there [] k w h = absurd (omega (arith, h))
set_there (x ∷ xs) zero w h = refl
set_there (x ∷ xs) (suc k) w h = set_there xs k w (omega (arith, h))

head_is : {X : Type 0} (a b : X) (xs ys : List X) → ◌≡◌ {A = List X} (a ∷ xs) (b ∷ ys) → a ≡ b
head_is a b xs ys e = cc

tail_is : {X : Type 0} (a b : X) (xs ys : List X) → ◌≡◌ {A = List X} (a ∷ xs) (b ∷ ys) → xs ≡ ys
tail_is a b xs ys e = cc

-- lists of which g sees the same have elements of which g sees the same
pub element_seen : {X : Type 0} (g : X → X) (xs ys : List X) (k : ℕ) (v : X) → map g ys ≡ map g xs → slice_get ys k ≡ Some v → (x : X) × ((slice_get xs k ≡ Some x) × (g v ≡ g x))
element_seen g xs [] k v same h = cc h
element_seen g [] (y ∷ ys) k v same h = cc same
element_seen g (x ∷ xs) (y ∷ ys) zero v same h = (x, (refl, ap g (sym (some_is h)) ∙ head_is (g y) (g x) (map g ys) (map g xs) same))
element_seen g (x ∷ xs) (y ∷ ys) (suc k) v same h = element_seen g xs ys k v (tail_is (g y) (g x) (map g ys) (map g xs) same) h
