-- Rising lists at numbers, number by number.
use Rattle.std.proofs.Common.{◌≡◌, ◌≢◌, ℕ, ℤ, zero, suc, Vec, Option, Some, None, take, ◌&&◌, ◌||◌, inl, inr, Bool, true, false, cond, not, List, [], ◌∷◌, refl, sym, ap, subst, ◌∙◌, arith}
use Rattle.std.specs.List.{Contains, list_any}
use Rattle.std.specs.Option.{option_map_or, IsSome}
use Rattle.std.specs.Ordering.{int_eq, int_cmp, is_gt, MatchOrdering}
use Rattle.std.specs.declared.cmp.Ordering.{Ordering}
use Rattle.std.specs.declared.cmp.Ordering.TheVariants.{Less, Equal, Greater}
use Rattle.std.specs.Cmp.{int_cmp_is, int_ranks}
use Rattle.std.specs.Int.Signed.{◌≤ℤ◌, ◌<ℤ◌}
use Rattle.std.proofs.lemmas.Int.{ints}
use Rattle.std.specs.BTreeMap as tree
use Rattle.std.specs.BTreeMap.{BTreeMap}
use Rattle.proof_basics.proofs.Tests.{clash}
use Rattle.attribute_columns.specs.Dictionary.{ids_at}
use Rattle.std.proofs.lemmas.Bool.Decides.{Decides-int_eq}
use Rattle.local_ids.specs.Rising.{IsRising, with_local, without_local, moved_local}
use Rattle.local_ids.proofs.RisingLaws.{with_rises, without_rises, with_has, without_has, there_with, new_without, at_has, has_at}
use Rattle.local_ids.proofs.KeyLaws.{same_ids}
use Rattle.local_ids.proofs.MoveLaws.{moved_rises, moved_twice}
use Rattle.attribute_columns.proofs.NumberLaws.{turned}

pub with_there : (x : ℕ) (xs : List ℕ) → IsRising xs → Contains xs x → with_local x xs ≡ xs
with_there x xs r h = sym (there_with x xs r (at_has x xs r h))

pub without_missing : (x : ℕ) (xs : List ℕ) → IsRising xs → (Contains xs x → ⊥) → without_local x xs ≡ xs
without_missing x xs r f = sym (new_without x xs r (λ h. f (has_at x xs h)))

with_twice : (x : ℕ) (xs : List ℕ) → IsRising xs → with_local x (with_local x xs) ≡ with_local x xs
with_twice x xs r = with_there x (with_local x xs) (with_rises x xs r) ((with_has x x xs r).1 (inl refl))

without_twice : (x : ℕ) (xs : List ℕ) → IsRising xs → without_local x (without_local x xs) ≡ without_local x xs
without_twice x xs r = without_missing x (without_local x xs) (without_rises x xs r) (λ h. ((without_has x x xs).0 h).1 refl)

-- an id that was new goes again
without_with : (x : ℕ) (xs : List ℕ) → IsRising xs → (Contains xs x → ⊥) → without_local x (with_local x xs) ≡ xs
without_with x xs r f = same_ids _ _ (without_rises x (with_local x xs) (with_rises x xs r)) r there back
  where
    there : (q : ℕ) → Contains (without_local x (with_local x xs)) q → Contains xs q
    there q h =
        let both = (without_has x q (with_local x xs)).0 h in
        elim ((with_has x q xs r).0 both.0) [ inl e ↦ absurd (both.1 e) | inr i ↦ i ]

    back : (q : ℕ) → Contains xs q → Contains (without_local x (with_local x xs)) q
    back q h = (without_has x q (with_local x xs)).1 ((with_has x q xs r).1 (inr h), λ e. f (subst (Contains xs) e h))

-- ---- one number more, with f for what is done at each

module _ (f : List ℕ → List ℕ) where
  pub step_is : (z q : ℤ) (before : Bool) (ids : ℤ → List ℕ) (old : ℤ → List ℕ) (new : List ℕ) → new ≡ cond (int_eq z q) (f (ids z)) (ids q)
      → ids q ≡ cond before (f (old q)) (old q) → f (f (old q)) ≡ f (old q) → new ≡ cond (before || int_eq q z) (f (old q)) (old q)
  step_is z q before ids old new e i twice = e ∙ by_test (int_eq z q) before refl i
    where
      here : int_eq z q ≡ true → ids z ≡ ids q
      here t = ap ids ((Decides-int_eq z q).0 t)

      there : (t : Bool) → int_eq z q ≡ t → int_eq q z ≡ t
      there t s = sym (turned z q) ∙ s

      by_test : (t b : Bool) → int_eq z q ≡ t → ids q ≡ cond b (f (old q)) (old q) → cond t (f (ids z)) (ids q) ≡ cond (b || int_eq q z) (f (old q)) (old q)
      by_test true true t j = ap f (here t ∙ j) ∙ twice
      by_test true false t j = ap f (here t ∙ j) ∙ ap (λ c. cond c (f (old q)) (old q)) (sym (there true t))
      by_test false true t j = j
      by_test false false t j = j ∙ ap (λ c. cond c (f (old q)) (old q)) (sym (there false t))

pub step_with : (x : ℕ) (z q : ℤ) (before : Bool) (ids old : ℤ → List ℕ) (new : List ℕ) → IsRising (old q) → new ≡ cond (int_eq z q) (with_local x (ids z)) (ids q)
    → ids q ≡ cond before (with_local x (old q)) (old q) → new ≡ cond (before || int_eq q z) (with_local x (old q)) (old q)
step_with x z q before ids old new r e i = step_is (with_local x) z q before ids old new e i (with_twice x (old q) r)

pub step_without : (x : ℕ) (z q : ℤ) (before : Bool) (ids old : ℤ → List ℕ) (new : List ℕ) → IsRising (old q) → new ≡ cond (int_eq z q) (without_local x (ids z)) (ids q)
    → ids q ≡ cond before (without_local x (old q)) (old q) → new ≡ cond (before || int_eq q z) (without_local x (old q)) (old q)
step_without x z q before ids old new r e i = step_is (without_local x) z q before ids old new e i (without_twice x (old q) r)

pub step_moved : (x w : ℕ) → w ≢ x → (z q : ℤ) (before : Bool) (ids old : ℤ → List ℕ) (new : List ℕ) → IsRising (old q) → new ≡ cond (int_eq z q) (moved_local x w (ids z)) (ids q)
    → ids q ≡ cond before (moved_local x w (old q)) (old q) → new ≡ cond (before || int_eq q z) (moved_local x w (old q)) (old q)
step_moved x w other z q before ids old new r e i = step_is (moved_local x w) z q before ids old new e i (moved_twice x w (old q) r other)

either_rises : (t : Bool) (xs ys zs : List ℕ) → zs ≡ cond t xs ys → IsRising xs → IsRising ys → IsRising zs
either_rises true xs ys zs e r s = subst IsRising (sym e) r
either_rises false xs ys zs e r s = subst IsRising (sym e) s

pub with_part_rises : (x : ℕ) (t : Bool) (xs zs : List ℕ) → IsRising xs → zs ≡ cond t (with_local x xs) xs → IsRising zs
with_part_rises x t xs zs r e = either_rises t _ _ zs e (with_rises x xs r) r

pub without_part_rises : (x : ℕ) (t : Bool) (xs zs : List ℕ) → IsRising xs → zs ≡ cond t (without_local x xs) xs → IsRising zs
without_part_rises x t xs zs r e = either_rises t _ _ zs e (without_rises x xs r) r

pub moved_part_rises : (x w : ℕ) (t : Bool) (xs zs : List ℕ) → IsRising xs → zs ≡ cond t (moved_local x w xs) xs → IsRising zs
moved_part_rises x w t xs zs r e = either_rises t _ _ zs e (moved_rises x w xs r) r

-- what was added goes again, where the list lacked it
pub undone : (x : ℕ) (t : Bool) (xs ys zs : List ℕ) → IsRising xs → (t ≡ true → Contains xs x → ⊥) → ys ≡ cond t (with_local x xs) xs → zs ≡ cond t (without_local x ys) ys → zs ≡ xs
undone x true xs ys zs r f e g = g ∙ ap (without_local x) e ∙ without_with x xs r (f refl)
undone x false xs ys zs r f e g = g ∙ e

-- after numbers that one value lacks and the other has
pub set_case : (x : ℕ) (xs ys zs : List ℕ) (a b f g : Bool) → f ≡ (a && not b) → g ≡ (b && not a) → (b ≡ true → with_local x xs ≡ xs) → (b ≡ false → without_local x xs ≡ xs)
    → ys ≡ cond f (with_local x xs) xs → zs ≡ cond g (without_local x ys) ys → zs ≡ cond a (with_local x xs) (without_local x xs)
set_case x xs ys zs true true f g i j has lacks e h = h ∙ ap (λ t. cond t (without_local x ys) ys) j ∙ e ∙ ap (λ t. cond t (with_local x xs) xs) i ∙ sym (has refl)
set_case x xs ys zs true false f g i j has lacks e h = h ∙ ap (λ t. cond t (without_local x ys) ys) j ∙ e ∙ ap (λ t. cond t (with_local x xs) xs) i
set_case x xs ys zs false true f g i j has lacks e h = h ∙ ap (λ t. cond t (without_local x ys) ys) j ∙ ap (without_local x) (e ∙ ap (λ t. cond t (with_local x xs) xs) i)
set_case x xs ys zs false false f g i j has lacks e h = h ∙ ap (λ t. cond t (without_local x ys) ys) j ∙ e ∙ ap (λ t. cond t (with_local x xs) xs) i ∙ sym (lacks refl)

-- ---- lists in a map

pub updated : {Y : Type 0} (z : ℤ) (m n : BTreeMap ℤ (Vec ℕ Y)) (o : Option (Vec ℕ Y)) → tree.UpdatesBy int_cmp (int_cmp z) m n o
    → (p : List ℕ) → option_map_or (λ v. v.items) o [] ≡ p → (q : ℤ) → ids_at n q ≡ cond (int_eq z q) p (ids_at m q)
updated {Y} z m n o u p e q = ap (λ o. option_map_or (λ v. v.items) o []) (u.0 q) ∙ by_test (int_eq z q)
  where
    by_test : (t : Bool) → option_map_or (λ v. v.items) (cond t o (tree.get int_cmp m q)) [] ≡ cond t p (ids_at m q)
    by_test true = e
    by_test false = refl

pub any_take : {X : Type 0} (p : X → Bool) (xs : List X) (i : ℕ) → list_any p (take i xs) ≡ true → list_any p xs ≡ true
any_take p [] i h = take_none i h
  where
    take_none : (i : ℕ) → list_any p (take i []) ≡ true → list_any p [] ≡ true
    take_none zero h = h
    take_none (suc i) h = h
any_take p (x ∷ xs) zero h = clash h refl
any_take p (x ∷ xs) (suc i) h = by_test (p x) h (any_take p xs i)
  where
    by_test : (t : Bool) → (t || list_any p (take i xs)) ≡ true → (list_any p (take i xs) ≡ true → list_any p xs ≡ true) → (t || list_any p xs) ≡ true
    by_test true h ih = refl
    by_test false h ih = ih h

pub none_there : {Y : Type 0} (m : BTreeMap ℤ (Vec ℕ Y)) (q : ℤ) → (IsSome (tree.get int_cmp m q) → ⊥) → ids_at m q ≡ []
none_there {Y} m q f = by_case (tree.get int_cmp m q) f
  where
    by_case : (o : Option (Vec ℕ Y)) → (IsSome o → ⊥) → option_map_or (λ v. v.items) o [] ≡ []
    by_case None g = refl
    by_case (Some v) g = absurd (g refl)

-- ---- numbers in order

pub greater : (a b : ℤ) → b <ℤ a → is_gt (int_cmp a b) ≡ true
greater a b h = sym (ap is_gt (int_cmp_is a b Greater h))

pub not_greater : (a b : ℤ) → a ≤ℤ b → is_gt (int_cmp a b) ≡ false
not_greater a b h = by_order (int_cmp a b) (int_ranks a b)
  where
    by_order : (o : Ordering) → MatchOrdering o (a <ℤ b) (a ≡ b) (b <ℤ a) → is_gt o ≡ false
    by_order Less k = refl
    by_order Equal k = refl
    by_order Greater k = absurd (omega (arith, ints, k, h))

pub below_too : (q n end : ℤ) → q <ℤ n → is_gt (int_cmp n end) ≡ false → is_gt (int_cmp q end) ≡ false
below_too q n end l h = not_greater q end (by_order (int_cmp n end) (int_ranks n end) h)
  where
    by_order : (o : Ordering) → MatchOrdering o (n <ℤ end) (n ≡ end) (end <ℤ n) → is_gt o ≡ false → q ≤ℤ end
    by_order Less k h = omega (arith, ints, k, l)
    by_order Equal k h = omega (arith, ints, k, l)
    by_order Greater k h = clash refl h
