use Rattle.std.proofs.Common.{◌==◌, ◌∙◌, sym, ap, map, not}
use Rattle.std.proofs.lemmas.List.{length-map}
use Rattle.doc_types.specs.SchemaMaps.{field_pair}
use Rattle.doc_types.proofs.Known.{some_entries}
use Rattle.doc_types.proofs.schema.some_field.Goals as goal

pub returns : goal.returns
returns c =
    let fields = c.args.fields.now in
    ap not c.is_empty.ensures ∙ ap (λ n. not (n == 0)) (sym (length-map fields field_pair)) ∙ some_entries (map field_pair fields)
