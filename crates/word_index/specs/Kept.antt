-- How the code keeps the ids of words.
use Rattle.std.specs.Prelude.{ℕ, List, [], ◌∷◌, map, Option, None, Some, String}
use Rattle.std.specs.HashMap.{HashMap}
use Rattle.std.specs.String.{string_bytes}
use Rattle.std.specs.FinMap as fin
use Rattle.word_index.specs.Index.{Index}

-- the words of a map, each with what its value is as a list
abbrev pub index_of : {X Y S : Type 0} → (X → List ℕ) → HashMap (String Y) X S → Index
index_of items lists = fin.from_entries (map (λ e. (string_bytes e.0, items e.1)) lists.entries)

-- a list that isn't empty
abbrev pub if_any : Option (List ℕ) → Option (List ℕ)
if_any None = None
if_any (Some []) = None
if_any (Some (x ∷ xs)) = Some (x ∷ xs)
