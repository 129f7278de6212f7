-- What two rising lists have together, what they have in common, and what one has that the other lacks.
use Rattle.std.specs.Prelude.{ℕ, nat_lt, List, [], ◌∷◌, if◌then◌else◌}

-- a number and those behind it, with the numbers of another list
abbrev pub joined_from : ℕ → List ℕ → (List ℕ → List ℕ) → List ℕ → List ℕ
joined_from x xs rest [] = x ∷ xs
joined_from x xs rest (y ∷ ys) = if nat_lt x y then x ∷ rest (y ∷ ys) else (if nat_lt y x then y ∷ joined_from x xs rest ys else x ∷ rest ys)

-- the numbers of both lists
unfoldable pub joined : List ℕ → List ℕ → List ℕ
joined [] ys = ys
joined (x ∷ xs) ys = joined_from x xs (joined xs) ys

abbrev pub cut_from : ℕ → (List ℕ → List ℕ) → List ℕ → List ℕ
cut_from x rest [] = []
cut_from x rest (y ∷ ys) = if nat_lt x y then rest (y ∷ ys) else (if nat_lt y x then cut_from x rest ys else x ∷ rest ys)

-- the numbers that both lists have
unfoldable pub cut : List ℕ → List ℕ → List ℕ
cut [] ys = []
cut (x ∷ xs) ys = cut_from x (cut xs) ys

abbrev pub lacking_from : ℕ → List ℕ → (List ℕ → List ℕ) → List ℕ → List ℕ
lacking_from x xs rest [] = x ∷ xs
lacking_from x xs rest (y ∷ ys) = if nat_lt x y then x ∷ rest (y ∷ ys) else (if nat_lt y x then lacking_from x xs rest ys else rest ys)

-- the numbers of the first list that the second lacks
unfoldable pub lacking : List ℕ → List ℕ → List ℕ
lacking [] ys = []
lacking (x ∷ xs) ys = lacking_from x xs (lacking xs) ys
