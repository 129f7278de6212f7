-- An id in the place of another.
use Rattle.std.proofs.Common.{◌≡◌, ◌≢◌, ◌↔◌, ◌⊎◌, inl, inr, ℕ, ◌<◌, ◌≤◌, ◌==◌, Bool, true, false, cond, ◌||◌, List, [], ◌∷◌, length, get_or, set, refl, sym, ap, subst, ◌∙◌, arith, Option, Some, None}
use Rattle.std.specs.List.{Contains, swap}
use Rattle.std.specs.Ordering.{nat_cmp}
use Rattle.std.specs.FinMap as fin
use Rattle.std.specs.FinMap.{same_map, nat_cmp-IsAntisymmetric}
use Rattle.std.proofs.lemmas.Cmp.{nat_cmp_total}
use Rattle.std.proofs.lemmas.List.{get_or-set_same, get_or-set_other}
use Rattle.std.proofs.lemmas.List.Edits.{swap_is}
use Rattle.std.proofs.Math.ListN.{get_or-eq_default, length-set}
use Rattle.std.proofs.lemmas.Bool.Decides.{nat_tests}
use Rattle.proof_basics.proofs.Numbers.{same-nat}
use Rattle.proof_basics.proofs.Tests.{clash}
use Rattle.local_ids.specs.Rising.{IsRising, with_local, without_local, has_id, moved_local}
use Rattle.local_ids.specs.Places.{map_from, put_at, moved}
use Rattle.local_ids.proofs.RisingLaws.{cons_has, with_rises, without_rises, with_has, without_has}
use Rattle.local_ids.proofs.KeyLaws.{get_with, get_without}
use Rattle.local_ids.proofs.PlaceLaws.{get_is}

none_has : (x : ℕ) → Contains [] x → ⊥
none_has x h = (let l = h.1 in omega (arith, l))

pub id_has : (x : ℕ) (xs : List ℕ) → has_id x xs ≡ true → Contains xs x
id_has x [] e = clash e refl
id_has x (y ∷ ys) e = by_test (y == x) refl e (id_has x ys)
  where
    by_test : (t : Bool) → (y == x) ≡ t → (t || has_id x ys) ≡ true → (has_id x ys ≡ true → Contains ys x) → Contains (y ∷ ys) x
    by_test true s f ih = (cons_has y x ys).1 (inl (let same : x ≡ y = grind (arith, nat_tests) in same))
    by_test false s f ih = (cons_has y x ys).1 (inr (ih f))

pub has_of : (x : ℕ) (xs : List ℕ) → Contains xs x → has_id x xs ≡ true
has_of x [] h = absurd (none_has x h)
has_of x (y ∷ ys) h = by_test (y == x) refl ((cons_has y x ys).0 h) (has_of x ys)
  where
    by_test : (t : Bool) → (y == x) ≡ t → (x ≡ y) ⊎ Contains ys x → (Contains ys x → has_id x ys ≡ true) → (t || has_id x ys) ≡ true
    by_test true s c ih = refl
    by_test false s (inl e) ih = clash (ap (λ z. z == x) (sym e) ∙ same-nat x) s
    by_test false s (inr c) ih = ih c

pub lacks_id : (x : ℕ) (xs : List ℕ) → has_id x xs ≡ false → Contains xs x → ⊥
lacks_id x xs e h = clash (has_of x xs h) e

pub id_lacks : (x : ℕ) (xs : List ℕ) → (Contains xs x → ⊥) → has_id x xs ≡ false
id_lacks x xs f = by_test (has_id x xs) refl
  where
    by_test : (t : Bool) → has_id x xs ≡ t → t ≡ false
    by_test true e = absurd (f (id_has x xs e))
    by_test false e = refl

pub moved_there : (x z : ℕ) (xs : List ℕ) → Contains xs x → moved_local x z xs ≡ with_local z (without_local x xs)
moved_there x z xs h = ap (λ t. cond t (with_local z (without_local x xs)) xs) (has_of x xs h)

pub moved_missing : (x z : ℕ) (xs : List ℕ) → (Contains xs x → ⊥) → moved_local x z xs ≡ xs
moved_missing x z xs f = ap (λ t. cond t (with_local z (without_local x xs)) xs) (id_lacks x xs f)

pub moved_rises : (x z : ℕ) (xs : List ℕ) → IsRising xs → IsRising (moved_local x z xs)
moved_rises x z xs r = by_test (has_id x xs)
  where
    by_test : (t : Bool) → IsRising (cond t (with_local z (without_local x xs)) xs)
    by_test true = with_rises z (without_local x xs) (without_rises x xs r)
    by_test false = r

pub moved_has : (x z y : ℕ) (xs : List ℕ) → IsRising xs → z ≢ x → Contains (moved_local x z xs) y ↔ (((y ≡ z) × Contains xs x) ⊎ (Contains xs y × (y ≢ x)))
moved_has x z y xs r other = by_test (has_id x xs) refl
  where
    by_test : (t : Bool) → has_id x xs ≡ t → Contains (cond t (with_local z (without_local x xs)) xs) y ↔ (((y ≡ z) × Contains xs x) ⊎ (Contains xs y × (y ≢ x)))
    by_test true e = (
      λ h. elim ((with_has z y (without_local x xs) (without_rises x xs r)).0 h) [ inl f ↦ inl (f, id_has x xs e) | inr i ↦ inr ((without_has x y xs).0 i) ],
      λ h. elim h [
        | inl f ↦ (with_has z y (without_local x xs) (without_rises x xs r)).1 (inl f.0)
        | inr i ↦ (with_has z y (without_local x xs) (without_rises x xs r)).1 (inr ((without_has x y xs).1 i))
      ],
    )
    by_test false e = (
      λ h. inr (h, λ f. lacks_id x xs e (subst (Contains xs) f h)),
      λ h. elim h [ inl f ↦ absurd (lacks_id x xs e f.1) | inr i ↦ i.0 ],
    )

pub moved_twice : (x z : ℕ) (xs : List ℕ) → IsRising xs → z ≢ x → moved_local x z (moved_local x z xs) ≡ moved_local x z xs
moved_twice x z xs r other = moved_missing x z (moved_local x z xs) (λ h. elim ((moved_has x z x xs r other).0 h) [ inl f ↦ other (sym f.0) | inr i ↦ i.1 refl ])

-- ---- maps

pub get_moved : {X : Type 0} (m : fin.FinMap nat_cmp X) (x z q : ℕ) → fin.get m z ≡ None → z ≢ x → fin.get (moved x z m) q ≡ cond (q == z) (fin.get m x) (cond (q == x) None (fin.get m q))
get_moved {X} m x z q free other = by_value (fin.get m x) refl
  where
    by_value : (o : Option X) → fin.get m x ≡ o → fin.get (put_at o z (fin.remove m x)) q ≡ cond (q == z) o (cond (q == x) None (fin.get m q))
    by_value (Some v) e = get_with (fin.remove m x) z v q ∙ ap (cond (q == z) (Some v)) (get_without m x q)
    by_value None e = get_without m x q ∙ by_test (q == z) (q == x) refl refl
      where
        by_test : (t u : Bool) → (q == z) ≡ t → (q == x) ≡ u → cond u None (fin.get m q) ≡ cond t None (cond u None (fin.get m q))
        by_test true true s w = refl
        by_test true false s w = (let same : q ≡ z = grind (arith, nat_tests) in ap (fin.get m) same ∙ free)
        by_test false u s w = refl

swap_at : {X : Type 0} (ps : List (Option X)) (x z q : ℕ) → x < length ps → z < length ps → get_or (swap ps x z) q None ≡ cond (q == z) (get_or ps x None) (cond (q == x) (get_or ps z None) (get_or ps q None))
swap_at {X} ps x z q lx lz = ap (λ l. get_or l q None) (sym (swap_is ps x z None lx lz)) ∙ by_test (q == z) (q == x) refl refl
  where
    first : List (Option X)
    first = set ps x (get_or ps z None)

    long : z < length first
    long = (let e = length-set ps x (get_or ps z None) in omega (arith, e, lz))

    by_test : (t u : Bool) → (q == z) ≡ t → (q == x) ≡ u → get_or (set first z (get_or ps x None)) q None ≡ cond t (get_or ps x None) (cond u (get_or ps z None) (get_or ps q None))
    by_test true u s w = (let same : q ≡ z = grind (arith, nat_tests) in ap (λ k. get_or (set first z (get_or ps x None)) k None) same ∙ get_or-set_same first z (get_or ps x None) None long)
    by_test false true s w =
        (let other : q ≢ z = grind (arith, nat_tests) in let same : q ≡ x = grind (arith, nat_tests) in
        get_or-set_other first z q (get_or ps x None) None other ∙ ap (λ k. get_or first k None) same ∙ get_or-set_same ps x (get_or ps z None) None lx)
    by_test false false s w =
        (let other : q ≢ z = grind (arith, nat_tests) in let apart : q ≢ x = grind (arith, nat_tests) in
        get_or-set_other first z q (get_or ps x None) None other ∙ get_or-set_other ps x q (get_or ps z None) None apart)

pub moved_down : {X : Type 0} (ps : List (Option X)) (x z : ℕ) → z < x → x < length ps → fin.get (map_from 0 ps) z ≡ None → map_from 0 (swap ps x z) ≡ moved x z (map_from 0 ps)
moved_down {X} ps x z l w free = same_map nat_cmp_total nat_cmp-IsAntisymmetric _ _ (λ q. get_is (swap ps x z) q ∙ swap_at ps x z q w (omega (arith, l, w)) ∙ by_test q (q == z) (q == x) refl refl ∙ sym (get_moved (map_from 0 ps) x z q free (λ e. omega (arith, l, e))))
  where
    none : get_or ps z None ≡ None
    none = sym (get_is ps z) ∙ free

    by_test : (q : ℕ) (t u : Bool) → (q == z) ≡ t → (q == x) ≡ u → cond t (get_or ps x None) (cond u (get_or ps z None) (get_or ps q None)) ≡ cond t (fin.get (map_from 0 ps) x) (cond u None (fin.get (map_from 0 ps) q))
    by_test q true u s w = sym (get_is ps x)
    by_test q false true s w = none
    by_test q false false s w = sym (get_is ps q)

pub moved_out : {X : Type 0} (ps : List (Option X)) (x z : ℕ) → z < x → length ps ≤ x → fin.get (map_from 0 ps) z ≡ None → map_from 0 ps ≡ moved x z (map_from 0 ps)
moved_out {X} ps x z l w free = same_map nat_cmp_total nat_cmp-IsAntisymmetric _ _ (λ q. by_test q (q == z) (q == x) refl refl ∙ sym (get_moved (map_from 0 ps) x z q free (λ e. omega (arith, l, e))))
  where
    none : fin.get (map_from 0 ps) x ≡ None
    none = get_is ps x ∙ get_or-eq_default ps None w

    by_test : (q : ℕ) (t u : Bool) → (q == z) ≡ t → (q == x) ≡ u → fin.get (map_from 0 ps) q ≡ cond t (fin.get (map_from 0 ps) x) (cond u None (fin.get (map_from 0 ps) q))
    by_test q true u s w = (let same : q ≡ z = grind (arith, nat_tests) in ap (fin.get (map_from 0 ps)) same ∙ free) ∙ sym none
    by_test q false true s w = (let same : q ≡ x = grind (arith, nat_tests) in ap (fin.get (map_from 0 ps)) same ∙ none)
    by_test q false false s w = refl
