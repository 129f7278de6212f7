use Rattle.std.proofs.Common.{◌∙◌, sym, ap, map}
use Rattle.std.specs.FinMap as fin
use Rattle.doc_types.specs.SchemaCodes.{name_cmp}
use Rattle.doc_types.specs.SchemaMaps.{type_pair}
use Rattle.doc_types.proofs.Finding.{got}
use Rattle.doc_types.proofs.schema.Schema.type_named.Goals as goal

pub returns : goal.returns
returns c = rw (← c.self.view_is)
    (c.type_named.ensures
    ∙ ap (λ l. fin.find name_cmp c.args.name.now (map type_pair l)) c.deref.ensures.value
    ∙ sym (got (map type_pair c.self.inside.types.items) c.args.name.now))
