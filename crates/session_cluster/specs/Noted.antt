-- What was noted of lines.
use Rattle.std.specs.Prelude.{◌==◌, ℕ, nat_eq, Bool, List, [], ◌∷◌, Option, None, Some, if◌then◌else◌}

-- it was noted of this line
abbrev pub is_for : {A : Type 0} → (A → ℕ) → ℕ → A → Bool
is_for number line x = nat_eq (number x) line

-- what was noted of it
abbrev pub noted_of : {A B : Type 0} → (A → ℕ) → (A → B) → ℕ → List A → Option B
noted_of number noted line [] = None
noted_of number noted line (x ∷ xs) = if number x == line then Some (noted x) else noted_of number noted line xs
