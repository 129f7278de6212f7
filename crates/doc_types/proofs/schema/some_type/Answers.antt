use Rattle.std.proofs.Common.{◌==◌, ◌∙◌, sym, ap, map, not}
use Rattle.std.proofs.lemmas.List.{length-map}
use Rattle.doc_types.specs.SchemaMaps.{type_pair}
use Rattle.doc_types.proofs.Known.{some_entries}
use Rattle.doc_types.proofs.schema.some_type.Goals as goal

pub returns : goal.returns
returns c =
    let types = c.args.types.now in
    ap not c.is_empty.ensures ∙ ap (λ n. not (n == 0)) (sym (length-map types type_pair)) ∙ some_entries (map type_pair types)
