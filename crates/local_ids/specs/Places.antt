-- Maps from local ids, kept by place.
use Rattle.std.specs.Prelude.{ℕ, suc, List, [], ◌∷◌, Option, None, Some}
use Rattle.std.specs.Ordering.{nat_cmp}
use Rattle.std.specs.FinMap as fin

-- the values of a list of places, the first of which is that of the id n
abbrev pub map_from : {X : Type 0} → ℕ → List (Option X) → fin.FinMap nat_cmp X
map_from n [] = fin.empty
map_from n (None ∷ places) = map_from (suc n) places
map_from n (Some x ∷ places) = fin.insert (map_from (suc n) places) n x

-- the value of an id becomes another's
abbrev pub put_at : {X : Type 0} → Option X → ℕ → fin.FinMap nat_cmp X → fin.FinMap nat_cmp X
put_at None to m = m
put_at (Some x) to m = fin.insert m to x

abbrev pub moved : {X : Type 0} → ℕ → ℕ → fin.FinMap nat_cmp X → fin.FinMap nat_cmp X
moved from to m = put_at (fin.get m from) to (fin.remove m from)
