-- The documents whose values pass a test, after a change of one value.
use Rattle.std.proofs.Common.{◌≡◌, ◌≢◌, ◌↔◌, ◌⊎◌, inl, inr, ℕ, ◌==◌, Bool, true, false, cond, List, [], refl, sym, ap, ◌∙◌, arith, Option, Some, None, is_some}
use Rattle.std.specs.List.{Contains}
use Rattle.std.specs.Option.{option_map_or}
use Rattle.std.specs.FinMap as fin
use Rattle.std.specs.FinMap.{get-empty}
use Rattle.std.specs.Ordering.{nat_cmp}
use Rattle.std.proofs.lemmas.Bool.Decides.{nat_tests}
use Rattle.proof_basics.proofs.Numbers.{same-nat}
use Rattle.proof_basics.proofs.Tests.{clash}
use Rattle.doc_types.specs.declared.values.FieldValue.{FieldValue}
use Rattle.local_ids.specs.Rising.{IsRising, with_local, without_local, moved_local}
use Rattle.local_ids.specs.Places.{moved}
use Rattle.local_ids.proofs.RisingLaws.{filter_rises, filter_has, with_rises, without_rises, with_has, without_has}
use Rattle.local_ids.proofs.KeyLaws.{keys_rise, has_key, get_with, get_without, same_ids}
use Rattle.local_ids.proofs.MoveLaws.{moved_rises, moved_has, get_moved}
use Rattle.attribute_columns.specs.Columns.{ValueMap}
use Rattle.field_indexes.specs.Words.{locals_by}

-- the document's value passes the test
abbrev pub passes : (FieldValue → Bool) → ValueMap → ℕ → Bool
passes p m n = option_map_or p (fin.get m n) false

pub rising_by : (p : FieldValue → Bool) (m : ValueMap) → IsRising (locals_by p m)
rising_by p m = filter_rises (passes p m) (fin.keys m) (keys_rise m)

some_value : (p : FieldValue → Bool) (o : Option FieldValue) → option_map_or p o false ≡ true → is_some o ≡ true
some_value p None h = clash h refl
some_value p (Some v) h = refl

pub told_by : (p : FieldValue → Bool) (m : ValueMap) (n : ℕ) → Contains (locals_by p m) n ↔ (passes p m n ≡ true)
told_by p m n = (
  λ h. ((filter_has (passes p m) n (fin.keys m)).0 h).1,
  λ h. (filter_has (passes p m) n (fin.keys m)).1 (has_key m n (some_value p (fin.get m n) h), h),
)

pub lacks_by : (p : FieldValue → Bool) (m : ValueMap) (l : ℕ) → passes p m l ≡ false → Contains (locals_by p m) l → ⊥
lacks_by p m l e h = clash ((told_by p m l).0 h) e

pub none_by : (p : FieldValue → Bool) → [] ≡ locals_by p fin.empty
none_by p = same_ids [] (locals_by p fin.empty) tt (rising_by p fin.empty)
    (λ n h. absurd (let l = h.1 in omega (arith, l)))
    (λ n h. clash ((told_by p fin.empty n).0 h) (ap (λ o. option_map_or p o false) (get-empty nat_cmp n)))

passes_with : (p : FieldValue → Bool) (m : ValueMap) (l : ℕ) (v : FieldValue) (n : ℕ) → passes p (fin.insert m l v) n ≡ cond (n == l) (p v) (passes p m n)
passes_with p m l v n = ap (λ o. option_map_or p o false) (get_with m l v n) ∙ by_test (n == l)
  where
    by_test : (t : Bool) → option_map_or p (cond t (Some v) (fin.get m n)) false ≡ cond t (p v) (passes p m n)
    by_test true = refl
    by_test false = refl

passes_without : (p : FieldValue → Bool) (m : ValueMap) (l n : ℕ) → passes p (fin.remove m l) n ≡ cond (n == l) false (passes p m n)
passes_without p m l n = ap (λ o. option_map_or p o false) (get_without m l n) ∙ by_test (n == l)
  where
    by_test : (t : Bool) → option_map_or p (cond t None (fin.get m n)) false ≡ cond t false (passes p m n)
    by_test true = refl
    by_test false = refl

passes_moved : (p : FieldValue → Bool) (m : ValueMap) (x z n : ℕ) → fin.get m z ≡ None → z ≢ x → passes p (moved x z m) n ≡ cond (n == z) (passes p m x) (cond (n == x) false (passes p m n))
passes_moved p m x z n free other = ap (λ o. option_map_or p o false) (get_moved m x z n free other) ∙ by_test (n == z) (n == x)
  where
    by_test : (t u : Bool) → option_map_or p (cond t (fin.get m x) (cond u None (fin.get m n))) false ≡ cond t (passes p m x) (cond u false (passes p m n))
    by_test true u = refl
    by_test false true = refl
    by_test false false = refl

either : (b : Bool) (l : ℕ) (xs : List ℕ) → IsRising xs → IsRising (cond b (with_local l xs) xs)
either true l xs r = with_rises l xs r
either false l xs r = r

-- a value more, of a document that had none
pub by_with : (p : FieldValue → Bool) (m : ValueMap) (l : ℕ) (v : FieldValue) → fin.get m l ≡ None → locals_by p (fin.insert m l v) ≡ cond (p v) (with_local l (locals_by p m)) (locals_by p m)
by_with p m l v free = same_ids _ _ (rising_by p (fin.insert m l v)) (either (p v) l (locals_by p m) (rising_by p m)) there back
  where
    none : passes p m l ≡ false
    none = ap (λ o. option_map_or p o false) free

    to : (n : ℕ) (t b : Bool) → (n == l) ≡ t → cond t b (passes p m n) ≡ true → Contains (cond b (with_local l (locals_by p m)) (locals_by p m)) n
    to n true true e h = (with_has l n (locals_by p m) (rising_by p m)).1 (inl (grind (arith, nat_tests)))
    to n true false e h = clash h refl
    to n false true e h = (with_has l n (locals_by p m) (rising_by p m)).1 (inr ((told_by p m n).1 h))
    to n false false e h = (told_by p m n).1 h

    there : (n : ℕ) → Contains (locals_by p (fin.insert m l v)) n → Contains (cond (p v) (with_local l (locals_by p m)) (locals_by p m)) n
    there n h = to n (n == l) (p v) refl (sym (passes_with p m l v n) ∙ (told_by p (fin.insert m l v) n).0 h)

    old : (n : ℕ) (t b : Bool) → (n == l) ≡ t → Contains (locals_by p m) n → cond t b (passes p m n) ≡ true
    old n true b e h = (let same : n ≡ l = grind (arith, nat_tests) in clash ((told_by p m n).0 h) (ap (passes p m) same ∙ none))
    old n false b e h = (told_by p m n).0 h

    new : (n : ℕ) (t : Bool) → (n == l) ≡ t → (n ≡ l) ⊎ Contains (locals_by p m) n → cond t true (passes p m n) ≡ true
    new n true e c = refl
    new n false e (inl f) = clash (ap (λ w. w == l) f ∙ same-nat l) e
    new n false e (inr h) = (told_by p m n).0 h

    from : (n : ℕ) (b : Bool) → Contains (cond b (with_local l (locals_by p m)) (locals_by p m)) n → cond (n == l) b (passes p m n) ≡ true
    from n true h = new n (n == l) refl ((with_has l n (locals_by p m) (rising_by p m)).0 h)
    from n false h = old n (n == l) false refl h

    back : (n : ℕ) → Contains (cond (p v) (with_local l (locals_by p m)) (locals_by p m)) n → Contains (locals_by p (fin.insert m l v)) n
    back n h = (told_by p (fin.insert m l v) n).1 (passes_with p m l v n ∙ from n (p v) h)

pub by_without : (p : FieldValue → Bool) (m : ValueMap) (l : ℕ) → locals_by p (fin.remove m l) ≡ without_local l (locals_by p m)
by_without p m l = same_ids _ _ (rising_by p (fin.remove m l)) (without_rises l (locals_by p m) (rising_by p m)) there back
  where
    seen : (n : ℕ) (t : Bool) → (n == l) ≡ t → cond t false (passes p m n) ≡ true → Contains (locals_by p m) n × (n ≢ l)
    seen n true e h = clash h refl
    seen n false e h = ((told_by p m n).1 h, λ f. clash (ap (λ z. z == l) f ∙ same-nat l) e)

    shown : (n : ℕ) (t : Bool) → (n == l) ≡ t → Contains (locals_by p m) n × (n ≢ l) → cond t false (passes p m n) ≡ true
    shown n true e h = absurd (h.1 (grind (arith, nat_tests)))
    shown n false e h = (told_by p m n).0 h.0

    there : (n : ℕ) → Contains (locals_by p (fin.remove m l)) n → Contains (without_local l (locals_by p m)) n
    there n h = (without_has l n (locals_by p m)).1 (seen n (n == l) refl (sym (passes_without p m l n) ∙ (told_by p (fin.remove m l) n).0 h))

    back : (n : ℕ) → Contains (without_local l (locals_by p m)) n → Contains (locals_by p (fin.remove m l)) n
    back n h = (told_by p (fin.remove m l) n).1 (passes_without p m l n ∙ shown n (n == l) refl ((without_has l n (locals_by p m)).0 h))

pub by_moved : (p : FieldValue → Bool) (m : ValueMap) (x z : ℕ) → fin.get m z ≡ None → z ≢ x → locals_by p (moved x z m) ≡ moved_local x z (locals_by p m)
by_moved p m x z free other = same_ids _ _ (rising_by p (moved x z m)) (moved_rises x z (locals_by p m) (rising_by p m)) there back
  where
    seen : (n : ℕ) (t u : Bool) → (n == z) ≡ t → (n == x) ≡ u → cond t (passes p m x) (cond u false (passes p m n)) ≡ true → ((n ≡ z) × Contains (locals_by p m) x) ⊎ (Contains (locals_by p m) n × (n ≢ x))
    seen n true u e f h = inl (grind (arith, nat_tests), (told_by p m x).1 h)
    seen n false true e f h = clash h refl
    seen n false false e f h = inr ((told_by p m n).1 h, λ g. clash (ap (λ w. w == x) g ∙ same-nat x) f)

    none : passes p m z ≡ false
    none = ap (λ o. option_map_or p o false) free

    shown : (n : ℕ) (t u : Bool) → (n == z) ≡ t → (n == x) ≡ u → ((n ≡ z) × Contains (locals_by p m) x) ⊎ (Contains (locals_by p m) n × (n ≢ x)) → cond t (passes p m x) (cond u false (passes p m n)) ≡ true
    shown n true u e f (inl h) = (told_by p m x).0 h.1
    shown n true u e f (inr h) = (let same : n ≡ z = grind (arith, nat_tests) in clash ((told_by p m n).0 h.0) (ap (passes p m) same ∙ none))
    shown n false u e f (inl h) = clash (ap (λ w. w == z) h.0 ∙ same-nat z) e
    shown n false true e f (inr h) = absurd (h.1 (grind (arith, nat_tests)))
    shown n false false e f (inr h) = (told_by p m n).0 h.0

    there : (n : ℕ) → Contains (locals_by p (moved x z m)) n → Contains (moved_local x z (locals_by p m)) n
    there n h = (moved_has x z n (locals_by p m) (rising_by p m) other).1 (seen n (n == z) (n == x) refl refl (sym (passes_moved p m x z n free other) ∙ (told_by p (moved x z m) n).0 h))

    back : (n : ℕ) → Contains (moved_local x z (locals_by p m)) n → Contains (locals_by p (moved x z m)) n
    back n h = (told_by p (moved x z m) n).1 (passes_moved p m x z n free other ∙ shown n (n == z) (n == x) refl refl ((moved_has x z n (locals_by p m) (rising_by p m) other).0 h))
