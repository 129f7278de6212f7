use Rattle.std.proofs.Common.{◌≡◌, sym, ap, subst, ◌∙◌, None, List, ℕ}
use Rattle.std.specs.FinMap as fin
use Rattle.document_ids.specs.Parts.{type_of}
use Rattle.documents.specs.Fields.{pairs}
use Rattle.field_indexes.specs.Fields.{cell}
use Rattle.field_indexes.specs.Told.{fields_of}
use Rattle.document_indexes.specs.Entering.{AreNamed}
use Rattle.document_indexes.proofs.PairLaws.{entries_named}
use Rattle.document_indexes.proofs.IndexLaws.{listed_with, listed_without, listed_moved, listed_back, cells_entered, cells_left, cells_moved}
use Rattle.document_indexes.proofs.indexes.Indexes.enter.Goals as goal

pub enter_fields-requires-clause-named : goal.enter_fields-requires-clause-named
enter_fields-requires-clause-named c = subst AreNamed (sym c.fields.ensures) (entries_named c.args.document.now.fields)

pub returns-in-Ok-clause-listed : goal.returns-in-Ok-clause-listed
returns-in-Ok-clause-listed c = λ n. listed_with c.args.self.now.types c.add.new.self c.type_name-name.result.now (type_of c.args.document.now.id) n c.args.local c.in_ok-add.ensures.ok (c.type_name-name.ensures ∙ ap type_of c.id.ensures)

pub returns-in-Ok-clause-cells : goal.returns-in-Ok-clause-cells
returns-in-Ok-clause-cells c = λ n f k.
    cells_entered c.args.document.now c.type_name-name.result.now n f (pairs c.fields.result.now) k c.args.local (cell (fields_of c.enter_fields.new.indexes) n f k) (cell (fields_of c.args.self.now.fields) n f)
    (c.type_name-name.ensures ∙ ap type_of c.id.ensures) c.fields.ensures (c.requires.free n f) (c.in-Ok.ensures.ok n f k)

pub returns-in-Err-clause-listed_before : goal.returns-in-Err-clause-listed_before
returns-in-Err-clause-listed_before c = λ n.
    let own = type_of c.args.document.now.id in
    listed_back c.args.self.now.types c.add.new.self c.remove.new.self own n c.args.local c.requires.rising c.requires.new
    (listed_with c.args.self.now.types c.add.new.self c.type_name-name.result.now own n c.args.local c.in_ok-add.ensures.ok (c.type_name-name.ensures ∙ ap type_of c.id.ensures))
    (listed_without c.add.new.self c.remove.new.self c.type_name-name.result.now own n c.args.local c.remove.ensures (c.type_name-name.ensures ∙ ap type_of c.id.ensures))
