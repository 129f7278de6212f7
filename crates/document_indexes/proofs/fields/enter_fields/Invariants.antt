use Rattle.std.proofs.Common.{◌≡◌, ◌==◌, ◌&&◌, List, ℕ, take, cond, bytes_eq}
use Rattle.std.specs.Option.{IfSome}
use Rattle.documents.specs.Fields.{pairs}
use Rattle.field_indexes.specs.Fields.{cell}
use Rattle.field_indexes.specs.Told.{fields_of}
use Rattle.document_indexes.specs.Entering.{value_of, ComesFrom}
use Rattle.document_indexes.proofs.fields.enter_fields.Given as goal

abbrev pub invariant-loop-at : goal.invariant-loop-at
invariant-loop-at l =
    ((n f : List ℕ) (k : ℕ) → cell (fields_of l.indexes) n f k
    ≡ cond ((k == l.local) && bytes_eq l.name n) (value_of f (take l.at (pairs l.fields))) (cell (fields_of l.initial.indexes) n f k))
    × ((n f : List ℕ) → IfSome (fields_of l.indexes n f) (ComesFrom (fields_of l.initial.indexes) l.name (pairs l.fields) n f))
