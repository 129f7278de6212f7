-- The keys of a map from local ids.
use Rattle.std.proofs.Common.{◌≡◌, ◌≢◌, ◌⊎◌, inl, inr, ℕ, zero, suc, ◌<◌, ◌≤◌, ◌==◌, Bool, true, false, cond, ◌&&◌, List, [], ◌∷◌, map, length, get_or, refl, sym, ap, ◌∙◌, arith, Some, None, is_some}
use Rattle.std.specs.Prelude.{T}
use Rattle.std.specs.List.{AllByRecursion, Contains}
use Rattle.std.specs.declared.cmp.Ordering.{Ordering}
use Rattle.std.specs.declared.cmp.Ordering.TheVariants.{Less, Equal, Greater}
use Rattle.std.specs.Ordering.{nat_cmp, is_lt, eq_by_cmp}
use Rattle.std.specs.Cmp.{ranked, unsigned_tied, eq_by_cmp_equiv}
use Rattle.std.specs.FinMap as fin
use Rattle.std.specs.FinMap.Entries.{below_all}
use Rattle.std.specs.FinMap.{entries_sorted, contains_key-keys, get-insert, get-remove}
use Rattle.std.proofs.lemmas.Cmp.{nat_cmp_total}
use Rattle.std.proofs.lemmas.Map.Views.{Contains-from_any, list_any-from_Contains}
use Rattle.std.proofs.lemmas.Bool.Decides.{nat_tests}
use Rattle.proof_basics.proofs.Numbers.{same-nat}
use Rattle.proof_basics.proofs.Tests.{clash}
use Rattle.local_ids.specs.Rising.{IsRising, with_local, without_local}
use Rattle.local_ids.proofs.RisingLaws.{each, cons_has, with_rises, without_rises, with_has, without_has}

-- ---- the keys rise

less_of : (x y : ℕ) → T (is_lt (nat_cmp x y)) → x < y
less_of x y h = by_order (nat_cmp x y) refl h
  where
    by_order : (o : Ordering) → nat_cmp x y ≡ o → T (is_lt o) → x < y
    by_order Less e t = ranked x y Less (sym e)
    by_order Equal e t = absurd t
    by_order Greater e t = absurd t

left_of : (a b : Bool) → T (a && b) → T a
left_of true b h = tt
left_of false b h = h

right_of : (a b : Bool) → T (a && b) → T b
right_of true b h = h
right_of false b h = absurd h

all_above : {X : Type 0} (x : ℕ) (es : List (ℕ × X)) → T (below_all nat_cmp x es) → AllByRecursion (λ y. x < y) (map (λ e. e.0) es)
all_above x [] h = tt
all_above x (e ∷ es) h = (less_of x e.0 (left_of _ _ h), all_above x es (right_of _ _ h))

sorted_rises : {X : Type 0} (es : List (ℕ × X)) → T (fin.is_sorted nat_cmp es) → IsRising (map (λ e. e.0) es)
sorted_rises [] h = tt
sorted_rises (e ∷ es) h = (all_above e.0 es (left_of _ _ h), sorted_rises es (right_of _ _ h))

pub keys_rise : {X : Type 0} (m : fin.FinMap nat_cmp X) → IsRising (fin.keys m)
keys_rise m = sorted_rises (fin.entries m) (entries_sorted m)

-- ---- a rising list is its ids

least : (y : ℕ) (ys : List ℕ) (q : ℕ) → IsRising (y ∷ ys) → Contains (y ∷ ys) q → y ≤ q
least y ys q r h = by_place h.0 h.1 h.2
  where
    by_place : (k : ℕ) → k < length (y ∷ ys) → get_or (y ∷ ys) k q ≡ q → y ≤ q
    by_place zero l e = omega (arith, e)
    by_place (suc k) l e = (let a = each (λ z. y < z) ys r.0 k q (omega (arith, l)) in omega (arith, a, e))

above : (y : ℕ) (ys : List ℕ) (q : ℕ) → IsRising (y ∷ ys) → Contains ys q → y < q
above y ys q r h = (let a = each (λ z. y < z) ys r.0 h.0 q h.1 in let e = h.2 in omega (arith, a, e))

tail_has : (x : ℕ) (xs : List ℕ) (y : ℕ) (ys : List ℕ) → IsRising (x ∷ xs) → x ≡ y → ((q : ℕ) → Contains (x ∷ xs) q → Contains (y ∷ ys) q) → (q : ℕ) → Contains xs q → Contains ys q
tail_has x xs y ys r e f q h = elim ((cons_has y q ys).0 (f q ((cons_has x q xs).1 (inr h)))) [
  | inl same ↦ absurd (let a = above x xs q r h in omega (arith, a, e, same))
  | inr i ↦ i
]

pub same_ids : (xs ys : List ℕ) → IsRising xs → IsRising ys → ((q : ℕ) → Contains xs q → Contains ys q) → ((q : ℕ) → Contains ys q → Contains xs q) → xs ≡ ys
same_ids [] [] r s f g = refl
same_ids [] (y ∷ ys) r s f g = absurd (let l = (g y ((cons_has y y ys).1 (inl refl))).1 in omega (arith, l))
same_ids (x ∷ xs) [] r s f g = absurd (let l = (f x ((cons_has x x xs).1 (inl refl))).1 in omega (arith, l))
same_ids (x ∷ xs) (y ∷ ys) r s f g =
    let low : y ≤ x = least y ys x s (f x ((cons_has x x xs).1 (inl refl))) in
    let high : x ≤ y = least x xs y r (g y ((cons_has y y ys).1 (inl refl))) in
    let e : x ≡ y = omega (arith, low, high) in
    ap (λ z. z ∷ xs) e ∙ ap (λ l. y ∷ l) (same_ids xs ys r.1 s.1 (tail_has x xs y ys r e f) (tail_has y ys x xs s (sym e) g))

-- ---- an id is a key where it has a value

exact : (x y : ℕ) → eq_by_cmp nat_cmp x y ≡ true → x ≡ y
exact x y e = (let t : (x == y) ≡ true = sym (unsigned_tied x y) ∙ e in grind (arith, nat_tests))

pub key_has : {X : Type 0} (m : fin.FinMap nat_cmp X) (q : ℕ) → Contains (fin.keys m) q → is_some (fin.get m q) ≡ true
key_has m q h = contains_key-keys m q ∙ list_any-from_Contains (eq_by_cmp_equiv nat_cmp_total) q (fin.keys m) h

pub has_key : {X : Type 0} (m : fin.FinMap nat_cmp X) (q : ℕ) → is_some (fin.get m q) ≡ true → Contains (fin.keys m) q
has_key m q h = Contains-from_any exact q (fin.keys m) (sym (contains_key-keys m q) ∙ h)

-- the value of an id after one was given, and after one was taken away
pub get_with : {X : Type 0} (m : fin.FinMap nat_cmp X) (n : ℕ) (v : X) (q : ℕ) → fin.get (fin.insert m n v) q ≡ cond (q == n) (Some v) (fin.get m q)
get_with m n v q = get-insert nat_cmp_total m n v q ∙ ap (λ t. cond t (Some v) (fin.get m q)) (unsigned_tied q n)

pub get_without : {X : Type 0} (m : fin.FinMap nat_cmp X) (n : ℕ) (q : ℕ) → fin.get (fin.remove m n) q ≡ cond (q == n) None (fin.get m q)
get_without m n q = get-remove nat_cmp_total m n q ∙ ap (λ t. cond t None (fin.get m q)) (unsigned_tied q n)

pub keys_with : {X : Type 0} (m : fin.FinMap nat_cmp X) (n : ℕ) (v : X) → fin.keys (fin.insert m n v) ≡ with_local n (fin.keys m)
keys_with {X} m n v = same_ids _ _ (keys_rise (fin.insert m n v)) (with_rises n (fin.keys m) (keys_rise m)) there back
  where
    seen : (q : ℕ) (t : Bool) → (q == n) ≡ t → is_some (cond t (Some v) (fin.get m q)) ≡ true → (q ≡ n) ⊎ Contains (fin.keys m) q
    seen q true e h = inl (grind (arith, nat_tests))
    seen q false e h = inr (has_key m q h)

    told : (q : ℕ) (t : Bool) → (q == n) ≡ t → (q ≡ n) ⊎ Contains (fin.keys m) q → is_some (cond t (Some v) (fin.get m q)) ≡ true
    told q true e h = refl
    told q false e (inl s) = clash (ap (λ z. z == n) s ∙ same-nat n) e
    told q false e (inr h) = key_has m q h

    there : (q : ℕ) → Contains (fin.keys (fin.insert m n v)) q → Contains (with_local n (fin.keys m)) q
    there q h = (with_has n q (fin.keys m) (keys_rise m)).1 (seen q (q == n) refl (sym (ap is_some (get_with m n v q)) ∙ key_has (fin.insert m n v) q h))

    back : (q : ℕ) → Contains (with_local n (fin.keys m)) q → Contains (fin.keys (fin.insert m n v)) q
    back q h = has_key (fin.insert m n v) q (ap is_some (get_with m n v q) ∙ told q (q == n) refl ((with_has n q (fin.keys m) (keys_rise m)).0 h))

pub keys_without : {X : Type 0} (m : fin.FinMap nat_cmp X) (n : ℕ) → fin.keys (fin.remove m n) ≡ without_local n (fin.keys m)
keys_without {X} m n = same_ids _ _ (keys_rise (fin.remove m n)) (without_rises n (fin.keys m) (keys_rise m)) there back
  where
    seen : (q : ℕ) (t : Bool) → (q == n) ≡ t → is_some (cond t None (fin.get m q)) ≡ true → Contains (fin.keys m) q × (q ≢ n)
    seen q true e h = clash h refl
    seen q false e h = (has_key m q h, λ s. clash (ap (λ z. z == n) s ∙ same-nat n) e)

    told : (q : ℕ) (t : Bool) → (q == n) ≡ t → Contains (fin.keys m) q × (q ≢ n) → is_some (cond t None (fin.get m q)) ≡ true
    told q true e h = absurd (h.1 (grind (arith, nat_tests)))
    told q false e h = key_has m q h.0

    there : (q : ℕ) → Contains (fin.keys (fin.remove m n)) q → Contains (without_local n (fin.keys m)) q
    there q h = (without_has n q (fin.keys m)).1 (seen q (q == n) refl (sym (ap is_some (get_without m n q)) ∙ key_has (fin.remove m n) q h))

    back : (q : ℕ) → Contains (without_local n (fin.keys m)) q → Contains (fin.keys (fin.remove m n)) q
    back q h = has_key (fin.remove m n) q (ap is_some (get_without m n q) ∙ told q (q == n) refl ((without_has n q (fin.keys m)).0 h))
