use Rattle.std.proofs.Common.{◌≡◌, sym, ap, subst, ◌∙◌, None, List, ℕ}
use Rattle.std.specs.FinMap as fin
use Rattle.document_ids.specs.Parts.{type_of}
use Rattle.documents.specs.Fields.{pairs}
use Rattle.field_indexes.specs.Fields.{cell}
use Rattle.field_indexes.specs.Told.{fields_of}
use Rattle.document_indexes.specs.Entering.{AreNamed}
use Rattle.document_indexes.proofs.PairLaws.{entries_named}
use Rattle.document_indexes.proofs.IndexLaws.{listed_with, listed_without, listed_moved, listed_back, cells_entered, cells_left, cells_moved}
use Rattle.document_indexes.proofs.indexes.Indexes.leave.Goals as goal

pub returns-clause-listed : goal.returns-clause-listed
returns-clause-listed c = λ n. listed_without c.args.self.now.types c.remove.new.self c.type_name-name.result.now (type_of c.args.document.now.id) n c.args.local c.remove.ensures (c.type_name-name.ensures ∙ ap type_of c.id.ensures)

pub returns-clause-cells : goal.returns-clause-cells
returns-clause-cells c = λ n f k.
    cells_left c.args.document.now c.type_name-name.result.now n f (pairs c.fields.result.now) k c.args.local (cell (fields_of c.leave_fields.new.indexes) n f k) (cell (fields_of c.args.self.now.fields) n f)
    (c.type_name-name.ensures ∙ ap type_of c.id.ensures) c.fields.ensures (c.requires.own n f) (c.leave_fields.ensures.cells n f k)
