use Rattle.std.proofs.Common.{◌≡◌, ◌==◌, List, ℕ, None, take, cond}
use Rattle.documents.specs.Fields.{pairs}
use Rattle.field_indexes.specs.Fields.{cell}
use Rattle.field_indexes.specs.Told.{fields_of}
use Rattle.document_indexes.specs.Entering.{is_named, kind_at}
use Rattle.document_indexes.proofs.fields.move_fields.Given as goal

abbrev pub invariant-loop-at : goal.invariant-loop-at
invariant-loop-at l =
    ((n f : List ℕ) (k : ℕ) → cell (fields_of l.indexes) n f k
    ≡ cond (is_named l.name (take l.at (pairs l.fields)) n f)
    (cond (k == l.to) (cell (fields_of l.initial.indexes) n f l.from) (cond (k == l.from) None (cell (fields_of l.initial.indexes) n f k)))
    (cell (fields_of l.initial.indexes) n f k))
    × ((n f : List ℕ) → kind_at (fields_of l.indexes) n f ≡ kind_at (fields_of l.initial.indexes) n f)
