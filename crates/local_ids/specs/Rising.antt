-- Rising lists of local ids.
use Rattle.std.specs.Prelude.{ℕ, ◌<◌, Bool, not, nat_lt, ◌==◌, List, [], ◌∷◌, ◌++◌, filter, if◌then◌else◌}
use Rattle.std.specs.List.{AllByRecursion, list_any}

-- each id is below all that stand behind it
abbrev pub IsRising : List ℕ → Type 0
IsRising [] = Unit {0}
IsRising (x ∷ xs) = AllByRecursion (λ y. x < y) xs × IsRising xs

-- an id between those below and those above it
abbrev pub with_local : ℕ → List ℕ → List ℕ
with_local x xs = filter (λ y. nat_lt y x) xs ++ x ∷ filter (λ y. nat_lt x y) xs

-- all ids but one
abbrev pub without_local : ℕ → List ℕ → List ℕ
without_local x xs = filter (λ y. not (y == x)) xs

abbrev pub has_id : ℕ → List ℕ → Bool
has_id x xs = list_any (λ y. y == x) xs

-- another id in the place of one that is there
abbrev pub moved_local : ℕ → ℕ → List ℕ → List ℕ
moved_local from to xs = if has_id from xs then with_local to (without_local from xs) else xs
