-- Rising lists, by the place of an id.
use Rattle.std.proofs.Common.{◌≡◌, ◌≢◌, ◌↔◌, ◌⊎◌, inl, inr, ℕ, zero, suc, ◌+◌, ◌<◌, ◌≤◌, ◌==◌, Bool, true, false, cond, not, nat_lt, List, [], ◌∷◌, ◌++◌, length, get_or, insert, remove, filter, refl, sym, ap, ap₂, subst, ◌∙◌, arith}
use mathlib.Core.Bool.{true≢false}
use Rattle.std.specs.List.{prefix_len, AllByRecursion, Contains}
use Rattle.std.specs.List.Sorted.{IsPartitionPoint, IsNonDecreasingBy}
use Rattle.std.proofs.lemmas.List.Sums.{prefix_len_passes, prefix_len_stops, prefix_len-le-length}
use Rattle.std.proofs.lemmas.List.{get_or_default}
use Rattle.std.proofs.lemmas.Bool.Decides.{nat_tests}
use Rattle.proof_basics.proofs.Numbers.{same-nat, apart, lt-of, lt-to, ge-of, ge-to}
use Rattle.proof_basics.proofs.Tests.{clash, not_answered}
use Rattle.std.proofs.lemmas.List.Elements.{Contains-append_left, Contains-append_right, Contains-append_cases}
use Rattle.local_ids.specs.Rising.{IsRising, with_local, without_local}

-- how many ids are below one
abbrev place : ℕ → List ℕ → ℕ
place x xs = prefix_len (λ y. nat_lt y x) xs

pub each : {X : Type 0} (P : X → Type 0) (xs : List X) → AllByRecursion P xs → (k : ℕ) (d : X) → k < length xs → P (get_or xs k d)
each P [] h k d l = absurd (omega arith)
each P (x ∷ xs) h zero d l = h.0
each P (x ∷ xs) h (suc k) d l = each P xs h.1 k d (omega (arith, l))

-- a rising list doesn't fall
pub rises : (xs : List ℕ) → IsRising xs → IsNonDecreasingBy (λ x. x) xs
rises [] h i j d le lt = absurd (omega arith)
rises (x ∷ xs) h zero zero d le lt = omega arith
rises (x ∷ xs) h zero (suc j) d le lt = (let a = each (λ y. x < y) xs h.0 j d (omega (arith, lt)) in omega (arith, a))
rises (x ∷ xs) h (suc i) zero d le lt = absurd (omega (arith, le))
rises (x ∷ xs) h (suc i) (suc j) d le lt = rises xs h.1 i j d (omega (arith, le)) (omega (arith, lt))

pub point_is : (p : ℕ → Bool) (xs : List ℕ) (i : ℕ) → i ≤ length xs → IsPartitionPoint (λ y. p y ≡ true) (λ y. p y ≡ false) xs i → i ≡ prefix_len p xs
point_is p xs i within point = by_order (nat_lt i (prefix_len p xs)) (nat_lt (prefix_len p xs) i) refl refl
  where
    by_order : (x y : Bool) → nat_lt i (prefix_len p xs) ≡ x → nat_lt (prefix_len p xs) i ≡ y → i ≡ prefix_len p xs
    by_order true y e f =
        let less : i < prefix_len p xs = grind (arith, nat_tests) in
        let most = prefix_len-le-length p xs in
        absurd (true≢false (sym (prefix_len_passes p xs i 0 less) ∙ point.1 i 0 (omega arith) (omega (arith, less, most))))
    by_order false true e f =
        let more : prefix_len p xs < i = grind (arith, nat_tests) in
        absurd (true≢false (sym (point.0 (prefix_len p xs) 0 (omega arith) more) ∙ prefix_len_stops p xs 0 (omega (arith, more, within))))
    by_order false false e f = grind (arith, nat_tests)

-- ---- an id and the list behind another one

none_below : (x z : ℕ) (ys : List ℕ) → x ≤ z → AllByRecursion (λ y. z < y) ys → filter (λ y. nat_lt y x) ys ≡ []
none_below x z [] le h = refl
none_below x z (y ∷ ys) le h = ap (λ t. cond t (y ∷ filter (λ y. nat_lt y x) ys) (filter (λ y. nat_lt y x) ys)) (ge-to y x (let a = h.0 in omega (arith, a, le))) ∙ none_below x z ys le h.1

all_above : (x z : ℕ) (ys : List ℕ) → x ≤ z → AllByRecursion (λ y. z < y) ys → filter (λ y. nat_lt x y) ys ≡ ys
all_above x z [] le h = refl
all_above x z (y ∷ ys) le h = ap (λ t. cond t (y ∷ filter (λ y. nat_lt x y) ys) (filter (λ y. nat_lt x y) ys)) (lt-to x y (let a = h.0 in omega (arith, a, le))) ∙ ap (λ l. y ∷ l) (all_above x z ys le h.1)

all_others : (x z : ℕ) (ys : List ℕ) → x ≤ z → AllByRecursion (λ y. z < y) ys → without_local x ys ≡ ys
all_others x z [] le h = refl
all_others x z (y ∷ ys) le h = ap (λ t. cond (not t) (y ∷ without_local x ys) (without_local x ys)) (apart y x (λ e. (let a = h.0 in omega (arith, a, le, e)))) ∙ ap (λ l. y ∷ l) (all_others x z ys le h.1)

pub with_low : (x y : ℕ) (ys : List ℕ) → y < x → with_local x (y ∷ ys) ≡ y ∷ with_local x ys
with_low x y ys l =
    ap₂ (λ s t. cond s (y ∷ filter (λ y. nat_lt y x) ys) (filter (λ y. nat_lt y x) ys) ++ x ∷ cond t (y ∷ filter (λ y. nat_lt x y) ys) (filter (λ y. nat_lt x y) ys)) (lt-to y x l) (ge-to x y (omega (arith, l)))

pub with_same : (x : ℕ) (ys : List ℕ) → IsRising (x ∷ ys) → with_local x (x ∷ ys) ≡ x ∷ ys
with_same x ys h =
    ap₂ (λ s t. cond s (x ∷ filter (λ y. nat_lt y x) ys) (filter (λ y. nat_lt y x) ys) ++ x ∷ cond t (x ∷ filter (λ y. nat_lt x y) ys) (filter (λ y. nat_lt x y) ys)) (ge-to x x (omega arith)) (ge-to x x (omega arith))
    ∙ ap₂ (λ l r. l ++ x ∷ r) (none_below x x ys (omega arith) h.0) (all_above x x ys (omega arith) h.0)

pub with_high : (x y : ℕ) (ys : List ℕ) → x < y → IsRising (y ∷ ys) → with_local x (y ∷ ys) ≡ x ∷ y ∷ ys
with_high x y ys l h =
    ap₂ (λ s t. cond s (y ∷ filter (λ y. nat_lt y x) ys) (filter (λ y. nat_lt y x) ys) ++ x ∷ cond t (y ∷ filter (λ y. nat_lt x y) ys) (filter (λ y. nat_lt x y) ys)) (ge-to y x (omega (arith, l))) (lt-to x y l)
    ∙ ap₂ (λ l r. l ++ x ∷ y ∷ r) (none_below x y ys (omega (arith, l)) h.0) (all_above x y ys (omega (arith, l)) h.0)

pub without_low : (x y : ℕ) (ys : List ℕ) → y ≢ x → without_local x (y ∷ ys) ≡ y ∷ without_local x ys
without_low x y ys l = ap (λ t. cond (not t) (y ∷ without_local x ys) (without_local x ys)) (apart y x l)

pub without_same : (x : ℕ) (ys : List ℕ) → IsRising (x ∷ ys) → without_local x (x ∷ ys) ≡ ys
without_same x ys h = ap (λ t. cond (not t) (x ∷ without_local x ys) (without_local x ys)) (same-nat x) ∙ all_others x x ys (omega arith) h.0

pub without_high : (x y : ℕ) (ys : List ℕ) → x < y → IsRising (y ∷ ys) → without_local x (y ∷ ys) ≡ y ∷ ys
without_high x y ys l h = without_low x y ys (λ e. omega (arith, l, e)) ∙ ap (λ t. y ∷ t) (all_others x y ys (omega (arith, l)) h.0)

-- ---- the place of an id

-- the id stands at its place
abbrev pub IsAt : ℕ → List ℕ → Type 0
IsAt x xs = (place x xs < length xs) × (get_or xs (place x xs) 0 ≡ x)

place_low : (x y : ℕ) (ys : List ℕ) → y < x → place x (y ∷ ys) ≡ suc (place x ys)
place_low x y ys l = ap (λ t. cond t (1 + place x ys) 0) (lt-to y x l) ∙ omega arith

place_high : (x y : ℕ) (ys : List ℕ) → x ≤ y → place x (y ∷ ys) ≡ 0
place_high x y ys l = ap (λ t. cond t (1 + place x ys) 0) (ge-to y x l)

-- three cases of two numbers
data Order : ℕ → ℕ → Type 0 where
  Low : {x y : ℕ} → y < x → Order x y
  Same : {x y : ℕ} → y ≡ x → Order x y
  High : {x y : ℕ} → x < y → Order x y

order : (x y : ℕ) → Order x y
order x y = by_test (nat_lt y x) (nat_lt x y) refl refl
  where
    by_test : (s t : Bool) → nat_lt y x ≡ s → nat_lt x y ≡ t → Order x y
    by_test true t e f = Low (lt-of y x e)
    by_test false true e f = High (lt-of x y f)
    by_test false false e f = Same (let a = ge-of y x e in let b = ge-of x y f in omega (arith, a, b))

at_low : (x y : ℕ) (ys : List ℕ) → y < x → IsAt x ys → IsAt x (y ∷ ys)
at_low x y ys l h = (let e = place_low x y ys l in let a = h.0 in omega (arith, e, a), ap (λ n. get_or (y ∷ ys) n 0) (place_low x y ys l) ∙ h.1)

at_same : (x : ℕ) (ys : List ℕ) → IsAt x (x ∷ ys)
at_same x ys = (let e = place_high x x ys (omega arith) in omega (arith, e), ap (λ n. get_or (x ∷ ys) n 0) (place_high x x ys (omega arith)))

behind_low : (x y : ℕ) (ys : List ℕ) → y < x → IsAt x (y ∷ ys) → IsAt x ys
behind_low x y ys l h = (let e = place_low x y ys l in let a = h.0 in omega (arith, e, a), ap (λ n. get_or (y ∷ ys) n 0) (sym (place_low x y ys l)) ∙ h.1)

not_high : (x y : ℕ) (ys : List ℕ) → x < y → IsAt x (y ∷ ys) → ⊥
not_high x y ys l h = (let e : y ≡ x = ap (λ n. get_or (y ∷ ys) n 0) (sym (place_high x y ys (omega (arith, l)))) ∙ h.1 in omega (arith, l, e))

pub there_with : (x : ℕ) (xs : List ℕ) → IsRising xs → IsAt x xs → xs ≡ with_local x xs
there_with x [] r h = absurd (let a = h.0 in omega (arith, a))
there_with x (y ∷ ys) r h = by_order (order x y) (there_with x ys r.1)
  where
    by_order : Order x y → (IsAt x ys → ys ≡ with_local x ys) → y ∷ ys ≡ with_local x (y ∷ ys)
    by_order (Low l) ih = ap (λ t. y ∷ t) (ih (behind_low x y ys l h)) ∙ sym (with_low x y ys l)
    by_order (Same e) ih = ap (λ z. z ∷ ys) e ∙ sym (with_same x ys (subst (λ z. IsRising (z ∷ ys)) e r)) ∙ ap (λ z. with_local x (z ∷ ys)) (sym e)
    by_order (High l) ih = absurd (not_high x y ys l h)

pub new_with : (x : ℕ) (xs : List ℕ) → IsRising xs → (IsAt x xs → ⊥) → insert xs (place x xs) x ≡ with_local x xs
new_with x [] r f = refl
new_with x (y ∷ ys) r f = by_order (order x y) (new_with x ys r.1)
  where
    by_order : Order x y → ((IsAt x ys → ⊥) → insert ys (place x ys) x ≡ with_local x ys) → insert (y ∷ ys) (place x (y ∷ ys)) x ≡ with_local x (y ∷ ys)
    by_order (Low l) ih = ap (λ n. insert (y ∷ ys) n x) (place_low x y ys l) ∙ ap (λ t. y ∷ t) (ih (λ h. f (at_low x y ys l h))) ∙ sym (with_low x y ys l)
    by_order (Same e) ih = absurd (f (subst (λ z. IsAt x (z ∷ ys)) (sym e) (at_same x ys)))
    by_order (High l) ih = ap (λ n. insert (y ∷ ys) n x) (place_high x y ys (omega (arith, l))) ∙ sym (with_high x y ys l r)

pub there_without : (x : ℕ) (xs : List ℕ) → IsRising xs → IsAt x xs → remove xs (place x xs) ≡ without_local x xs
there_without x [] r h = absurd (let a = h.0 in omega (arith, a))
there_without x (y ∷ ys) r h = by_order (order x y) (there_without x ys r.1)
  where
    by_order : Order x y → (IsAt x ys → remove ys (place x ys) ≡ without_local x ys) → remove (y ∷ ys) (place x (y ∷ ys)) ≡ without_local x (y ∷ ys)
    by_order (Low l) ih = ap (λ n. remove (y ∷ ys) n) (place_low x y ys l) ∙ ap (λ t. y ∷ t) (ih (behind_low x y ys l h)) ∙ sym (without_low x y ys (λ e. omega (arith, l, e)))
    by_order (Same e) ih = ap (λ n. remove (y ∷ ys) n) (place_high x y ys (omega (arith, e))) ∙ sym (without_same x ys (subst (λ z. IsRising (z ∷ ys)) e r)) ∙ ap (λ z. without_local x (z ∷ ys)) (sym e)
    by_order (High l) ih = absurd (not_high x y ys l h)

pub new_without : (x : ℕ) (xs : List ℕ) → IsRising xs → (IsAt x xs → ⊥) → xs ≡ without_local x xs
new_without x [] r f = refl
new_without x (y ∷ ys) r f = by_order (order x y) (new_without x ys r.1)
  where
    by_order : Order x y → ((IsAt x ys → ⊥) → ys ≡ without_local x ys) → y ∷ ys ≡ without_local x (y ∷ ys)
    by_order (Low l) ih = ap (λ t. y ∷ t) (ih (λ h. f (at_low x y ys l h))) ∙ sym (without_low x y ys (λ e. omega (arith, l, e)))
    by_order (Same e) ih = absurd (f (subst (λ z. IsAt x (z ∷ ys)) (sym e) (at_same x ys)))
    by_order (High l) ih = sym (without_high x y ys l r)

-- ---- what rises

all_filter : (P : ℕ → Type 0) (p : ℕ → Bool) (xs : List ℕ) → AllByRecursion P xs → AllByRecursion P (filter p xs)
all_filter P p [] h = tt
all_filter P p (x ∷ xs) h = by_test (p x) (all_filter P p xs h.1)
  where
    by_test : (t : Bool) → AllByRecursion P (filter p xs) → AllByRecursion P (cond t (x ∷ filter p xs) (filter p xs))
    by_test true ih = (h.0, ih)
    by_test false ih = ih

pub filter_rises : (p : ℕ → Bool) (xs : List ℕ) → IsRising xs → IsRising (filter p xs)
filter_rises p [] h = tt
filter_rises p (x ∷ xs) h = by_test (p x) (filter_rises p xs h.1)
  where
    by_test : (t : Bool) → IsRising (filter p xs) → IsRising (cond t (x ∷ filter p xs) (filter p xs))
    by_test true ih = (all_filter (λ y. x < y) p xs h.0, ih)
    by_test false ih = ih

all_with : (z x : ℕ) (xs : List ℕ) → z < x → AllByRecursion (λ y. z < y) xs → (l : List ℕ) → AllByRecursion (λ y. z < y) l → AllByRecursion (λ y. z < y) (l ++ x ∷ filter (λ y. nat_lt x y) xs)
all_with z x xs lt h [] t = (lt, all_filter (λ y. z < y) (λ y. nat_lt x y) xs h)
all_with z x xs lt h (y ∷ ys) t = (t.0, all_with z x xs lt h ys t.1)

lower : (x y : ℕ) (ys : List ℕ) → x < y → AllByRecursion (λ z. y < z) ys → AllByRecursion (λ z. x < z) ys
lower x y [] l h = tt
lower x y (z ∷ zs) l h = (let a = h.0 in omega (arith, a, l), lower x y zs l h.1)

pub with_rises : (x : ℕ) (xs : List ℕ) → IsRising xs → IsRising (with_local x xs)
with_rises x [] h = (tt, tt)
with_rises x (y ∷ ys) h = by_order (order x y) (with_rises x ys h.1)
  where
    by_order : Order x y → (IsRising (with_local x ys)) → IsRising (with_local x (y ∷ ys))
    by_order (Low l) ih = subst IsRising (sym (with_low x y ys l)) (all_with y x ys l h.0 (filter (λ y. nat_lt y x) ys) (all_filter (λ z. y < z) (λ y. nat_lt y x) ys h.0), ih)
    by_order (Same e) ih = subst (λ z. IsRising (with_local x (z ∷ ys))) (sym e) (subst IsRising (sym (with_same x ys (subst (λ z. IsRising (z ∷ ys)) e h))) (subst (λ z. IsRising (z ∷ ys)) e h))
    by_order (High l) ih = subst IsRising (sym (with_high x y ys l h)) ((l, lower x y ys l h.0), h)

-- ---- an id is at a place exactly where the list has it

abbrev pub StandsAt : ℕ → List ℕ → ℕ → Type 0
StandsAt x xs at = (at < length xs) × (get_or xs at 0 ≡ x)

pub seen_at : (x : ℕ) (xs ys zs : List ℕ) (at : ℕ) → ys ≡ xs → zs ≡ xs → at ≡ place x ys → StandsAt x zs at → IsAt x xs
seen_at x xs ys zs at e f is h = subst (λ n. StandsAt x xs n) (is ∙ ap (place x) e) (subst (λ l. StandsAt x l at) f h)

pub told_at : (x : ℕ) (xs ys zs : List ℕ) (at : ℕ) → ys ≡ xs → zs ≡ xs → at ≡ place x ys → IsAt x xs → StandsAt x zs at
told_at x xs ys zs at e f is h = subst (λ l. StandsAt x l at) (sym f) (subst (λ n. StandsAt x xs n) (sym (is ∙ ap (place x) e)) h)

pub has_at : (x : ℕ) (xs : List ℕ) → IsAt x xs → Contains xs x
has_at x xs h = (place x xs, h.0, get_or_default xs (place x xs) x 0 h.0 ∙ h.1)

at_index : (x : ℕ) (xs : List ℕ) → IsRising xs → (k : ℕ) → k < length xs → get_or xs k x ≡ x → IsAt x xs
at_index x [] r k l e = absurd (omega (arith, l))
at_index x (y ∷ ys) r zero l e = subst (λ z. IsAt x (z ∷ ys)) (sym e) (at_same x ys)
at_index x (y ∷ ys) r (suc k) l e =
    let less : k < length ys = omega (arith, l) in
    let low : y < x = (let a = each (λ z. y < z) ys r.0 k x less in omega (arith, a, e)) in
    at_low x y ys low (at_index x ys r.1 k less e)

pub at_has : (x : ℕ) (xs : List ℕ) → IsRising xs → Contains xs x → IsAt x xs
at_has x xs r h = at_index x xs r h.0 h.1 h.2

pub place_is : (x : ℕ) (xs ys : List ℕ) (at : ℕ) → ys ≡ xs → at ≡ place x ys → at ≡ place x xs
place_is x xs ys at e is = is ∙ ap (place x) e

-- ---- which ids a list has

pub cons_has : (x y : ℕ) (xs : List ℕ) → Contains (x ∷ xs) y ↔ ((y ≡ x) ⊎ Contains xs y)
cons_has x y xs = (λ h. by_place h.0 h.1 h.2, to_place)
  where
    by_place : (k : ℕ) → k < length (x ∷ xs) → get_or (x ∷ xs) k y ≡ y → (y ≡ x) ⊎ Contains xs y
    by_place zero l e = inl (sym e)
    by_place (suc k) l e = inr (k, omega (arith, l), e)

    to_place : (y ≡ x) ⊎ Contains xs y → Contains (x ∷ xs) y
    to_place (inl e) = (0, omega arith, sym e)
    to_place (inr h) = (suc h.0, (let l = h.1 in omega (arith, l)), h.2)

pub filter_has : (p : ℕ → Bool) (y : ℕ) (xs : List ℕ) → Contains (filter p xs) y ↔ (Contains xs y × (p y ≡ true))
filter_has p y [] = (λ h. absurd (let l = h.1 in omega (arith, l)), λ h. absurd (let l = h.0.1 in omega (arith, l)))
filter_has p y (x ∷ xs) = by_test (p x) refl (filter_has p y xs)
  where
    by_test : (t : Bool) → p x ≡ t → (Contains (filter p xs) y ↔ (Contains xs y × (p y ≡ true))) → Contains (cond t (x ∷ filter p xs) (filter p xs)) y ↔ (Contains (x ∷ xs) y × (p y ≡ true))
    by_test true is ih = (
      λ h. elim ((cons_has x y (filter p xs)).0 h) [
        | inl e ↦ ((cons_has x y xs).1 (inl e), ap p e ∙ is)
        | inr i ↦ (let both = ih.0 i in ((cons_has x y xs).1 (inr both.0), both.1))
      ],
      λ h. elim ((cons_has x y xs).0 h.0) [
        | inl e ↦ (cons_has x y (filter p xs)).1 (inl e)
        | inr i ↦ (cons_has x y (filter p xs)).1 (inr (ih.1 (i, h.1)))
      ],
    )
    by_test false is ih = (
      λ h. (let both = ih.0 h in ((cons_has x y xs).1 (inr both.0), both.1)),
      λ h. elim ((cons_has x y xs).0 h.0) [
        | inl e ↦ clash (sym (ap p e) ∙ h.1) is
        | inr i ↦ ih.1 (i, h.1)
      ],
    )

pub without_has : (x y : ℕ) (xs : List ℕ) → Contains (without_local x xs) y ↔ (Contains xs y × (y ≢ x))
without_has x y xs = (
  λ h. (let both = (filter_has (λ y. not (y == x)) y xs).0 h in (both.0, λ e. clash (same_test e) (not_answered (y == x) both.1))),
  λ h. (filter_has (λ y. not (y == x)) y xs).1 (h.0, ap not (apart y x h.1)),
)
  where
    same_test : y ≡ x → (y == x) ≡ true
    same_test e = ap (λ z. z == x) e ∙ same-nat x

pub with_has : (x y : ℕ) (xs : List ℕ) → IsRising xs → Contains (with_local x xs) y ↔ ((y ≡ x) ⊎ Contains xs y)
with_has x y xs r = (there, back)
  where
    below : List ℕ
    below = filter (λ y. nat_lt y x) xs

    above : List ℕ
    above = filter (λ y. nat_lt x y) xs

    there : Contains (with_local x xs) y → (y ≡ x) ⊎ Contains xs y
    there h = elim (Contains-append_cases below (x ∷ above) y h) [
      | inl i ↦ inr ((filter_has (λ y. nat_lt y x) y xs).0 i).0
      | inr i ↦ elim ((cons_has x y above).0 i) [ inl e ↦ inl e | inr j ↦ inr ((filter_has (λ y. nat_lt x y) y xs).0 j).0 ]
    ]

    by_order : Contains xs y → Order x y → Contains (with_local x xs) y
    by_order h (Low l) = Contains-append_left below (x ∷ above) y ((filter_has (λ y. nat_lt y x) y xs).1 (h, lt-to y x l))
    by_order h (Same e) = Contains-append_right below (x ∷ above) y ((cons_has x y above).1 (inl e))
    by_order h (High l) = Contains-append_right below (x ∷ above) y ((cons_has x y above).1 (inr ((filter_has (λ y. nat_lt x y) y xs).1 (h, lt-to x y l))))

    back : (y ≡ x) ⊎ Contains xs y → Contains (with_local x xs) y
    back (inl e) = Contains-append_right below (x ∷ above) y ((cons_has x y above).1 (inl e))
    back (inr h) = by_order h (order x y)

pub without_rises : (x : ℕ) (xs : List ℕ) → IsRising xs → IsRising (without_local x xs)
without_rises x xs h = filter_rises (λ y. not (y == x)) xs h
