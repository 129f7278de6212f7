-- What a function finds of the items of a list; and the sum, the least and the greatest of some numbers.
use Rattle.std.specs.Prelude.{◌+ℤ◌, ℤ, pos, List, [], ◌∷◌, fold, Option, None, Some}
use Rattle.std.specs.Int.{int_min, int_max}

abbrev pub onto : {A : Type 0} → Option A → List A → List A
onto None xs = xs
onto (Some x) xs = x ∷ xs

-- what a function finds of each item, in order
abbrev pub found : {A B : Type 0} → (A → Option B) → List A → List B
found f [] = []
found f (x ∷ xs) = onto (f x) (found f xs)

abbrev pub sum_of : List ℤ → ℤ
sum_of zs = fold (λ s z. s +ℤ z) (pos 0) zs

-- the one of two numbers that is chosen, where there are two
abbrev pub either : (ℤ → ℤ → ℤ) → Option ℤ → ℤ → Option ℤ
either choose None z = Some z
either choose (Some y) z = Some (choose y z)

-- of no numbers there is neither
abbrev pub least : List ℤ → Option ℤ
least zs = fold (either int_min) None zs

abbrev pub greatest : List ℤ → Option ℤ
greatest zs = fold (either int_max) None zs
