use Rattle.std.proofs.Common.{◌≡◌, ◌<◌, ◌==◌, ◌&&◌, ◌||◌, ℕ, List, None, sym, ap, subst, ◌∙◌, cond, take, length, get_or, bytes_eq, arith}
use Rattle.std.proofs.lemmas.List.Folds.{list_any_more}
use Rattle.attribute_columns.specs.Columns.{without_value}
use Rattle.documents.specs.Fields.{pairs}
use Rattle.field_indexes.specs.Fields.{cell, is_field}
use Rattle.field_indexes.specs.Told.{fields_of}
use Rattle.document_indexes.specs.Entering.{is_named, has_name}
use Rattle.document_indexes.proofs.CellLaws.{cell_left, kind_left, step_left, named_more}
use Rattle.document_indexes.proofs.PairLaws.{no_pair, name_at, longer}
use Rattle.document_indexes.proofs.fields.leave_fields.Goals as goal

pub loop-at-preserved : goal.loop-at-preserved
loop-at-preserved c =
    let es = pairs c.args.fields.now in
    let at = c.loop-at.at in
    let name = c.args.name.now in
    let x = c.args.local in
    let less : at < length es = (let e = longer c.args.fields.now in omega (arith, e)) in
    let fd : c.name.result.now ≡ (get_or es at no_pair).0 = c.name.ensures ∙ name_at c.args.fields.now at c.index-fields-at.result (omega arith) c.index-fields-at.is in
    let left = cell_left (fields_of c.loop-at.indexes) (fields_of c.leave.new.self) name c.name.result.now x c.leave.ensures in (
      λ n f k.
          step_left (k == x) (is_named name (take at es) n f) (is_field name c.name.result.now n f) (cell (fields_of c.leave.new.self) n f k) (cell (fields_of c.loop-at.indexes) n f k) (cell (fields_of c.args.indexes.now) n f k)
          (left n f k) (c.loop-at.invariant.0 n f k)
          ∙ ap (λ b. cond ((k == x) && b) None (cell (fields_of c.args.indexes.now) n f k))
          (sym (named_more name n f c.name.result.now (has_name f (take at es))) ∙ ap (λ y. bytes_eq name n && (has_name f (take at es) || bytes_eq f y)) fd ∙ ap (λ b. bytes_eq name n && b) (sym (list_any_more (λ e. bytes_eq f e.0) es at no_pair less))),
      λ n f. kind_left (fields_of c.loop-at.indexes) (fields_of c.leave.new.self) name c.name.result.now x c.leave.ensures n f ∙ c.loop-at.invariant.1 n f,
    )
