use Rattle.std.proofs.Common.{◌∙◌, sym, ap, map, is_some}
use Rattle.std.specs.FinMap as fin
use Rattle.doc_types.specs.SchemaCodes.{name_cmp}
use Rattle.doc_types.specs.SchemaMaps.{type_pair}
use Rattle.doc_types.proofs.Finding.{got, some_mapped}
use Rattle.doc_types.proofs.schema.Schema.has_type.Goals as goal

pub returns : goal.returns
returns c = rw (← c.self.view_is)
    (c.is_some.ensures ∙ some_mapped _ c.type_named.result ∙ ap is_some c.type_named.ensures
    ∙ ap (λ l. is_some (fin.find name_cmp c.args.name.now (map type_pair l))) c.deref.ensures.value
    ∙ ap is_some (sym (got (map type_pair c.self.inside.types.items) c.args.name.now)))
