-- Which documents have a number, after a change of one value.
use Rattle.std.proofs.Common.{◌≡◌, ◌≢◌, ◌↔◌, ◌⊎◌, inl, inr, ℕ, ℤ, ◌==◌, Bool, true, false, cond, List, [], refl, sym, ap, ◌∙◌, arith, Option, Some, None, is_some}
use Rattle.std.specs.List.{Contains}
use Rattle.std.specs.Option.{option_map_or}
use Rattle.std.specs.FinMap as fin
use Rattle.std.specs.FinMap.{get-empty}
use Rattle.std.specs.Ordering.{nat_cmp}
use Rattle.std.proofs.lemmas.Bool.Decides.{nat_tests}
use Rattle.proof_basics.proofs.Numbers.{same-nat}
use Rattle.proof_basics.proofs.Tests.{clash}
use Rattle.doc_types.specs.declared.values.FieldValue.{FieldValue}
use Rattle.local_ids.specs.Rising.{IsRising, with_local, without_local, moved_local}
use Rattle.local_ids.specs.Places.{moved}
use Rattle.local_ids.proofs.RisingLaws.{filter_rises, filter_has, with_rises, without_rises, with_has, without_has}
use Rattle.local_ids.proofs.KeyLaws.{keys_rise, has_key, get_with, get_without, same_ids}
use Rattle.local_ids.proofs.MoveLaws.{moved_rises, moved_has, get_moved}
use Rattle.attribute_columns.specs.Columns.{ValueMap, numbers_of, has_number, numbers_at, locals_with}

pub rising : (q : ℤ) (m : ValueMap) → IsRising (locals_with q m)
rising q m = filter_rises (λ n. has_number q (numbers_at m n)) (fin.keys m) (keys_rise m)

some_value : (q : ℤ) (o : Option FieldValue) → has_number q (option_map_or numbers_of o []) ≡ true → is_some o ≡ true
some_value q None h = clash h refl
some_value q (Some v) h = refl

pub told : (q : ℤ) (m : ValueMap) (n : ℕ) → Contains (locals_with q m) n ↔ (has_number q (numbers_at m n) ≡ true)
told q m n = (
  λ h. ((filter_has (λ n. has_number q (numbers_at m n)) n (fin.keys m)).0 h).1,
  λ h. (filter_has (λ n. has_number q (numbers_at m n)) n (fin.keys m)).1 (has_key m n (some_value q (fin.get m n) h), h),
)

numbers_with : (m : ValueMap) (l : ℕ) (v : FieldValue) (n : ℕ) → numbers_at (fin.insert m l v) n ≡ cond (n == l) (numbers_of v) (numbers_at m n)
numbers_with m l v n = ap (λ o. option_map_or numbers_of o []) (get_with m l v n) ∙ by_test (n == l)
  where
    by_test : (t : Bool) → option_map_or numbers_of (cond t (Some v) (fin.get m n)) [] ≡ cond t (numbers_of v) (numbers_at m n)
    by_test true = refl
    by_test false = refl

numbers_without : (m : ValueMap) (l n : ℕ) → numbers_at (fin.remove m l) n ≡ cond (n == l) [] (numbers_at m n)
numbers_without m l n = ap (λ o. option_map_or numbers_of o []) (get_without m l n) ∙ by_test (n == l)
  where
    by_test : (t : Bool) → option_map_or numbers_of (cond t None (fin.get m n)) [] ≡ cond t [] (numbers_at m n)
    by_test true = refl
    by_test false = refl

-- a list with an id where it is to be there, else without it
changed : (b : Bool) (l : ℕ) (xs : List ℕ) → List ℕ
changed b l xs = cond b (with_local l xs) (without_local l xs)

changed_rises : (b : Bool) (l : ℕ) (xs : List ℕ) → IsRising xs → IsRising (cond b (with_local l xs) (without_local l xs))
changed_rises true l xs r = with_rises l xs r
changed_rises false l xs r = without_rises l xs r

changed_has : (b : Bool) (l : ℕ) (xs : List ℕ) → IsRising xs → (n : ℕ) → Contains (cond b (with_local l xs) (without_local l xs)) n → ((n ≡ l) × (b ≡ true)) ⊎ ((n ≢ l) × Contains xs n)
changed_has true l xs r n h = by_test (n == l) refl
  where
    by_test : (t : Bool) → (n == l) ≡ t → ((n ≡ l) × (true ≡ true)) ⊎ ((n ≢ l) × Contains xs n)
    by_test true e = inl (grind (arith, nat_tests), refl)
    by_test false e =
        let other : n ≢ l = λ f. clash (ap (λ z. z == l) f ∙ same-nat l) e in
        elim ((with_has l n xs r).0 h) [ inl f ↦ absurd (other f) | inr i ↦ inr (other, i) ]
changed_has false l xs r n h = (let both = (without_has l n xs).0 h in inr (both.1, both.0))

has_changed : (b : Bool) (l : ℕ) (xs : List ℕ) → IsRising xs → (n : ℕ) → ((n ≡ l) × (b ≡ true)) ⊎ ((n ≢ l) × Contains xs n) → Contains (cond b (with_local l xs) (without_local l xs)) n
has_changed true l xs r n (inl h) = (with_has l n xs r).1 (inl h.0)
has_changed true l xs r n (inr h) = (with_has l n xs r).1 (inr h.1)
has_changed false l xs r n (inl h) = clash h.1 refl
has_changed false l xs r n (inr h) = (without_has l n xs).1 (h.1, h.0)

pub list_with : (q : ℤ) (m : ValueMap) (l : ℕ) (v : FieldValue) → locals_with q (fin.insert m l v) ≡ cond (has_number q (numbers_of v)) (with_local l (locals_with q m)) (without_local l (locals_with q m))
list_with q m l v = same_ids _ _ (rising q (fin.insert m l v)) (changed_rises (has_number q (numbers_of v)) l (locals_with q m) (rising q m)) there back
  where
    seen : (n : ℕ) (t : Bool) → (n == l) ≡ t → has_number q (cond t (numbers_of v) (numbers_at m n)) ≡ true → ((n ≡ l) × (has_number q (numbers_of v) ≡ true)) ⊎ ((n ≢ l) × Contains (locals_with q m) n)
    seen n true e h = inl (grind (arith, nat_tests), h)
    seen n false e h = inr (λ f. clash (ap (λ z. z == l) f ∙ same-nat l) e, (told q m n).1 h)

    shown : (n : ℕ) (t : Bool) → (n == l) ≡ t → ((n ≡ l) × (has_number q (numbers_of v) ≡ true)) ⊎ ((n ≢ l) × Contains (locals_with q m) n) → has_number q (cond t (numbers_of v) (numbers_at m n)) ≡ true
    shown n true e (inl h) = h.1
    shown n true e (inr h) = absurd (h.0 (grind (arith, nat_tests)))
    shown n false e (inl h) = clash (ap (λ z. z == l) h.0 ∙ same-nat l) e
    shown n false e (inr h) = (told q m n).0 h.1

    there : (n : ℕ) → Contains (locals_with q (fin.insert m l v)) n → Contains (cond (has_number q (numbers_of v)) (with_local l (locals_with q m)) (without_local l (locals_with q m))) n
    there n h = has_changed (has_number q (numbers_of v)) l (locals_with q m) (rising q m) n (seen n (n == l) refl (sym (ap (has_number q) (numbers_with m l v n)) ∙ (told q (fin.insert m l v) n).0 h))

    back : (n : ℕ) → Contains (cond (has_number q (numbers_of v)) (with_local l (locals_with q m)) (without_local l (locals_with q m))) n → Contains (locals_with q (fin.insert m l v)) n
    back n h = (told q (fin.insert m l v) n).1 (ap (has_number q) (numbers_with m l v n) ∙ shown n (n == l) refl (changed_has (has_number q (numbers_of v)) l (locals_with q m) (rising q m) n h))

pub list_without : (q : ℤ) (m : ValueMap) (l : ℕ) → locals_with q (fin.remove m l) ≡ without_local l (locals_with q m)
list_without q m l = same_ids _ _ (rising q (fin.remove m l)) (without_rises l (locals_with q m) (rising q m)) there back
  where
    seen : (n : ℕ) (t : Bool) → (n == l) ≡ t → has_number q (cond t [] (numbers_at m n)) ≡ true → Contains (locals_with q m) n × (n ≢ l)
    seen n true e h = clash h refl
    seen n false e h = ((told q m n).1 h, λ f. clash (ap (λ z. z == l) f ∙ same-nat l) e)

    shown : (n : ℕ) (t : Bool) → (n == l) ≡ t → Contains (locals_with q m) n × (n ≢ l) → has_number q (cond t [] (numbers_at m n)) ≡ true
    shown n true e h = absurd (h.1 (grind (arith, nat_tests)))
    shown n false e h = (told q m n).0 h.0

    there : (n : ℕ) → Contains (locals_with q (fin.remove m l)) n → Contains (without_local l (locals_with q m)) n
    there n h = (without_has l n (locals_with q m)).1 (seen n (n == l) refl (sym (ap (has_number q) (numbers_without m l n)) ∙ (told q (fin.remove m l) n).0 h))

    back : (n : ℕ) → Contains (without_local l (locals_with q m)) n → Contains (locals_with q (fin.remove m l)) n
    back n h = (told q (fin.remove m l) n).1 (ap (has_number q) (numbers_without m l n) ∙ shown n (n == l) refl ((without_has l n (locals_with q m)).0 h))

pub no_lists : (q : ℤ) → [] ≡ locals_with q fin.empty
no_lists q = same_ids [] (locals_with q fin.empty) tt (rising q fin.empty)
    (λ n h. absurd (let l = h.1 in omega (arith, l)))
    (λ n h. clash ((told q fin.empty n).0 h) (ap (λ o. has_number q (option_map_or numbers_of o [])) (get-empty nat_cmp n)))

-- ---- a value that becomes another document's

numbers_moved : (m : ValueMap) (x z n : ℕ) → fin.get m z ≡ None → z ≢ x → numbers_at (moved x z m) n ≡ cond (n == z) (numbers_at m x) (cond (n == x) [] (numbers_at m n))
numbers_moved m x z n free other = ap (λ o. option_map_or numbers_of o []) (get_moved m x z n free other) ∙ by_test (n == z) (n == x)
  where
    by_test : (t u : Bool) → option_map_or numbers_of (cond t (fin.get m x) (cond u None (fin.get m n))) [] ≡ cond t (numbers_at m x) (cond u [] (numbers_at m n))
    by_test true u = refl
    by_test false true = refl
    by_test false false = refl

pub list_moved : (q : ℤ) (m : ValueMap) (x z : ℕ) → fin.get m z ≡ None → z ≢ x → locals_with q (moved x z m) ≡ moved_local x z (locals_with q m)
list_moved q m x z free other = same_ids _ _ (rising q (moved x z m)) (moved_rises x z (locals_with q m) (rising q m)) there back
  where
    seen : (n : ℕ) (t u : Bool) → (n == z) ≡ t → (n == x) ≡ u → has_number q (cond t (numbers_at m x) (cond u [] (numbers_at m n))) ≡ true → ((n ≡ z) × Contains (locals_with q m) x) ⊎ (Contains (locals_with q m) n × (n ≢ x))
    seen n true u e f h = inl (grind (arith, nat_tests), (told q m x).1 h)
    seen n false true e f h = clash h refl
    seen n false false e f h = inr ((told q m n).1 h, λ g. clash (ap (λ w. w == x) g ∙ same-nat x) f)

    none : has_number q (numbers_at m z) ≡ false
    none = ap (λ o. has_number q (option_map_or numbers_of o [])) free

    shown : (n : ℕ) (t u : Bool) → (n == z) ≡ t → (n == x) ≡ u → ((n ≡ z) × Contains (locals_with q m) x) ⊎ (Contains (locals_with q m) n × (n ≢ x)) → has_number q (cond t (numbers_at m x) (cond u [] (numbers_at m n))) ≡ true
    shown n true u e f (inl h) = (told q m x).0 h.1
    shown n true u e f (inr h) = (let same : n ≡ z = grind (arith, nat_tests) in clash (ap (λ k. has_number q (numbers_at m k)) (sym same) ∙ (told q m n).0 h.0) none)
    shown n false u e f (inl h) = clash (ap (λ w. w == z) h.0 ∙ same-nat z) e
    shown n false true e f (inr h) = absurd (h.1 (grind (arith, nat_tests)))
    shown n false false e f (inr h) = (told q m n).0 h.0

    there : (n : ℕ) → Contains (locals_with q (moved x z m)) n → Contains (moved_local x z (locals_with q m)) n
    there n h = (moved_has x z n (locals_with q m) (rising q m) other).1 (seen n (n == z) (n == x) refl refl (sym (ap (has_number q) (numbers_moved m x z n free other)) ∙ (told q (moved x z m) n).0 h))

    back : (n : ℕ) → Contains (moved_local x z (locals_with q m)) n → Contains (locals_with q (moved x z m)) n
    back n h = (told q (moved x z m) n).1 (ap (has_number q) (numbers_moved m x z n free other) ∙ shown n (n == z) (n == x) refl refl ((moved_has x z n (locals_with q m) (rising q m) other).0 h))
