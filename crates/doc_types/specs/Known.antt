-- What a schema knows of its types.
use Rattle.std.specs.Prelude.{ℕ, Bool, false, List, Option, Some, None, nat_lt}
use Rattle.std.specs.FinMap as fin
use Rattle.doc_types.specs.SchemaCodes.{Fields, Types}

-- there is a type
abbrev pub has_types : Types → Bool
has_types types = nat_lt 0 (fin.len types)

abbrev pub some_fields : Option Fields → Bool
some_fields None = false
some_fields (Some fields) = nat_lt 0 (fin.len fields)

-- there is a type of a name, and it has a field
abbrev pub has_fields : Types → List ℕ → Bool
has_fields types name = some_fields (fin.get types name)
