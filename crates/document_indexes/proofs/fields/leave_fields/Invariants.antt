use Rattle.std.proofs.Common.{◌≡◌, ◌==◌, ◌&&◌, List, ℕ, None, take, cond}
use Rattle.documents.specs.Fields.{pairs}
use Rattle.field_indexes.specs.Fields.{cell}
use Rattle.field_indexes.specs.Told.{fields_of}
use Rattle.document_indexes.specs.Entering.{is_named, kind_at}
use Rattle.document_indexes.proofs.fields.leave_fields.Given as goal

abbrev pub invariant-loop-at : goal.invariant-loop-at
invariant-loop-at l =
    ((n f : List ℕ) (k : ℕ) → cell (fields_of l.indexes) n f k ≡ cond ((k == l.local) && is_named l.name (take l.at (pairs l.fields)) n f) None (cell (fields_of l.initial.indexes) n f k))
    × ((n f : List ℕ) → kind_at (fields_of l.indexes) n f ≡ kind_at (fields_of l.initial.indexes) n f)
