-- Rising lists at words, word by word.
use Rattle.std.proofs.Common.{◌≡◌, ◌≢◌, inl, inr, ℕ, ◌||◌, Bool, true, false, cond, List, refl, sym, ap, subst, ◌∙◌, take, zero, suc, [], ◌∷◌}
use Rattle.std.specs.List.{Contains, list_any}
use Rattle.std.specs.Str.{bytes_eq}
use Rattle.std.proofs.lemmas.Slice.Eq.{bytes_eq-Decides}
use Rattle.proof_basics.proofs.Tests.{clash}
use Rattle.local_ids.specs.Rising.{IsRising, with_local, without_local, moved_local}
use Rattle.local_ids.proofs.RisingLaws.{with_rises, without_rises, with_has, without_has, there_with, new_without, at_has, has_at}
use Rattle.local_ids.proofs.KeyLaws.{same_ids}
use Rattle.local_ids.proofs.MoveLaws.{moved_rises, moved_twice}

pub same_bytes : (a b : List ℕ) → bytes_eq a b ≡ true → a ≡ b
same_bytes a b e = (bytes_eq-Decides a b).0 e

pub own_bytes : (a : List ℕ) → bytes_eq a a ≡ true
own_bytes a = (bytes_eq-Decides a a).1 refl

pub turned : (a b : List ℕ) → bytes_eq a b ≡ bytes_eq b a
turned a b = by_tests (bytes_eq a b) (bytes_eq b a) refl refl
  where
    by_tests : (t u : Bool) → bytes_eq a b ≡ t → bytes_eq b a ≡ u → t ≡ u
    by_tests true true e f = refl
    by_tests false false e f = refl
    by_tests true false e f = clash (subst (λ x. bytes_eq x a ≡ true) (same_bytes a b e) (own_bytes a)) f
    by_tests false true e f = clash (subst (λ x. bytes_eq x b ≡ true) (same_bytes b a f) (own_bytes b)) e

pub without_missing : (x : ℕ) (xs : List ℕ) → IsRising xs → (Contains xs x → ⊥) → without_local x xs ≡ xs
without_missing x xs r f = sym (new_without x xs r (λ h. f (has_at x xs h)))

with_twice : (x : ℕ) (xs : List ℕ) → IsRising xs → with_local x (with_local x xs) ≡ with_local x xs
with_twice x xs r = sym (there_with x (with_local x xs) (with_rises x xs r) (at_has x (with_local x xs) (with_rises x xs r) ((with_has x x xs r).1 (inl refl))))

without_twice : (x : ℕ) (xs : List ℕ) → IsRising xs → without_local x (without_local x xs) ≡ without_local x xs
without_twice x xs r = without_missing x (without_local x xs) (without_rises x xs r) (λ h. ((without_has x x xs).0 h).1 refl)

-- an id that was new goes again
without_with : (x : ℕ) (xs : List ℕ) → IsRising xs → (Contains xs x → ⊥) → without_local x (with_local x xs) ≡ xs
without_with x xs r f = same_ids _ _ (without_rises x (with_local x xs) (with_rises x xs r)) r there back
  where
    there : (q : ℕ) → Contains (without_local x (with_local x xs)) q → Contains xs q
    there q h =
        let both = (without_has x q (with_local x xs)).0 h in
        elim ((with_has x q xs r).0 both.0) [ inl e ↦ absurd (both.1 e) | inr i ↦ i ]

    back : (q : ℕ) → Contains xs q → Contains (without_local x (with_local x xs)) q
    back q h = (without_has x q (with_local x xs)).1 ((with_has x q xs r).1 (inr h), λ e. f (subst (Contains xs) e h))

pub either_rises : (t : Bool) (xs ys zs : List ℕ) → zs ≡ cond t xs ys → IsRising xs → IsRising ys → IsRising zs
either_rises true xs ys zs e r s = subst IsRising (sym e) r
either_rises false xs ys zs e r s = subst IsRising (sym e) s

pub with_part_rises : (x : ℕ) (t : Bool) (xs zs : List ℕ) → IsRising xs → zs ≡ cond t (with_local x xs) xs → IsRising zs
with_part_rises x t xs zs r e = either_rises t _ _ zs e (with_rises x xs r) r

-- what was added goes again, where the list lacked it
pub undone : (x : ℕ) (t : Bool) (xs ys zs : List ℕ) → IsRising xs → (t ≡ true → Contains xs x → ⊥) → ys ≡ cond t (with_local x xs) xs → zs ≡ cond t (without_local x ys) ys → zs ≡ xs
undone x true xs ys zs r f e g = g ∙ ap (without_local x) e ∙ without_with x xs r (f refl)
undone x false xs ys zs r f e g = g ∙ e

-- ---- one word more, with f for what is done at each

step_is : (f : List ℕ → List ℕ) (z q : List ℕ) (before : Bool) (ids old : List ℕ → List ℕ) (new : List ℕ) → new ≡ cond (bytes_eq z q) (f (ids z)) (ids q)
    → ids q ≡ cond before (f (old q)) (old q) → f (f (old q)) ≡ f (old q) → new ≡ cond (before || bytes_eq q z) (f (old q)) (old q)
step_is f z q before ids old new e i twice = e ∙ by_test (bytes_eq z q) before refl i
  where
    here : bytes_eq z q ≡ true → ids z ≡ ids q
    here t = ap ids (same_bytes z q t)

    there : (t : Bool) → bytes_eq z q ≡ t → bytes_eq q z ≡ t
    there t s = turned q z ∙ s

    by_test : (t b : Bool) → bytes_eq z q ≡ t → ids q ≡ cond b (f (old q)) (old q) → cond t (f (ids z)) (ids q) ≡ cond (b || bytes_eq q z) (f (old q)) (old q)
    by_test true true t j = ap f (here t ∙ j) ∙ twice
    by_test true false t j = ap f (here t ∙ j) ∙ ap (λ c. cond c (f (old q)) (old q)) (sym (there true t))
    by_test false true t j = j
    by_test false false t j = j ∙ ap (λ c. cond c (f (old q)) (old q)) (sym (there false t))

pub step_with : (x : ℕ) (z q : List ℕ) (before : Bool) (ids old : List ℕ → List ℕ) (new : List ℕ) → IsRising (old q) → new ≡ cond (bytes_eq z q) (with_local x (ids z)) (ids q)
    → ids q ≡ cond before (with_local x (old q)) (old q) → new ≡ cond (before || bytes_eq q z) (with_local x (old q)) (old q)
step_with x z q before ids old new r e i = step_is (with_local x) z q before ids old new e i (with_twice x (old q) r)

pub step_without : (x : ℕ) (z q : List ℕ) (before : Bool) (ids old : List ℕ → List ℕ) (new : List ℕ) → IsRising (old q) → new ≡ cond (bytes_eq z q) (without_local x (ids z)) (ids q)
    → ids q ≡ cond before (without_local x (old q)) (old q) → new ≡ cond (before || bytes_eq q z) (without_local x (old q)) (old q)
step_without x z q before ids old new r e i = step_is (without_local x) z q before ids old new e i (without_twice x (old q) r)

pub step_moved : (x w : ℕ) → w ≢ x → (z q : List ℕ) (before : Bool) (ids old : List ℕ → List ℕ) (new : List ℕ) → IsRising (old q) → new ≡ cond (bytes_eq z q) (moved_local x w (ids z)) (ids q)
    → ids q ≡ cond before (moved_local x w (old q)) (old q) → new ≡ cond (before || bytes_eq q z) (moved_local x w (old q)) (old q)
step_moved x w other z q before ids old new r e i = step_is (moved_local x w) z q before ids old new e i (moved_twice x w (old q) r other)

pub any_take : {X : Type 0} (p : X → Bool) (xs : List X) (i : ℕ) → list_any p (take i xs) ≡ true → list_any p xs ≡ true
any_take p [] zero h = h
any_take p [] (suc i) h = h
any_take p (x ∷ xs) zero h = clash h refl
any_take p (x ∷ xs) (suc i) h = by_test (p x) h (any_take p xs i)
  where
    by_test : (t : Bool) → (t || list_any p (take i xs)) ≡ true → (list_any p (take i xs) ≡ true → list_any p xs ≡ true) → (t || list_any p xs) ≡ true
    by_test true h ih = refl
    by_test false h ih = ih h
