-- What was noted of lines, with what was noted of one line more.
use Rattle.std.proofs.Common.{◌≡◌, ◌≢◌, ◌==◌, ℕ, Bool, true, false, List, [], ◌∷◌, ◌++◌, None, Some, option_map, refl, ap, ◌∙◌, arith, if◌then◌else◌}
use Rattle.std.proofs.lemmas.Bool.Decides.{nat_tests}
use Rattle.std.specs.List.{find}
use Rattle.session_cluster.specs.Noted.{is_for, noted_of}

same_number : (a b : ℕ) → a ≡ b → (a == b) ≡ true
same_number a b h = grind (arith, nat_tests)

other_number : (a b : ℕ) → a ≢ b → (a == b) ≡ false
other_number a b h = grind (arith, nat_tests)

module _ {A B : Type 0} (number : A → ℕ) (noted : A → B) (line : ℕ) where
  -- another line has the same
  pub noted_other : (xs : List A) (x : A) → number x ≢ line → noted_of number noted line (xs ++ x ∷ []) ≡ noted_of number noted line xs
  noted_other [] x other = ap (λ t. if t then Some (noted x) else None) (other_number (number x) line other)
  noted_other (y ∷ xs) x other = ap (λ o. if number y == line then Some (noted y) else o) (noted_other xs x other)

  -- and that line has this, where it had none
  pub noted_own : (xs : List A) (x : A) → number x ≡ line → noted_of number noted line xs ≡ None → noted_of number noted line (xs ++ x ∷ []) ≡ Some (noted x)
  noted_own [] x own none = ap (λ t. if t then Some (noted x) else None) (same_number (number x) line own)
  noted_own (y ∷ xs) x own none = by_test (number y == line) none (noted_own xs x own)
    where
      by_test : (t : Bool) → (if t then Some (noted y) else noted_of number noted line xs) ≡ None → (noted_of number noted line xs ≡ None → noted_of number noted line (xs ++ x ∷ []) ≡ Some (noted x))
          → (if t then Some (noted y) else noted_of number noted line (xs ++ x ∷ [])) ≡ Some (noted x)
      by_test true none rest = cc none
      by_test false none rest = rest none

  -- what is found of a line is its own
  found_noted : (xs : List A) → option_map noted (find (is_for number line) xs) ≡ noted_of number noted line xs
  found_noted [] = refl
  found_noted (y ∷ xs) = by_test (number y == line) (found_noted xs)
    where
      by_test : (t : Bool) → option_map noted (find (is_for number line) xs) ≡ noted_of number noted line xs
          → option_map noted (if t then Some y else find (is_for number line) xs) ≡ (if t then Some (noted y) else noted_of number noted line xs)
      by_test true rest = refl
      by_test false rest = rest

  -- what is shown of what was found, or none
  pub shown_noted : (xs : List A) (x : A) (shown : B) → Some x ≡ find (is_for number line) xs → shown ≡ noted x → Some shown ≡ noted_of number noted line xs
  shown_noted xs x shown found same = ap Some same ∙ ap (option_map noted) found ∙ found_noted xs

  pub none_noted : (xs : List A) → None ≡ find (is_for number line) xs → None ≡ noted_of number noted line xs
  none_noted xs found = ap (option_map noted) found ∙ found_noted xs
