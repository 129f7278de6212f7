use Rattle.std.proofs.Common.{◌∙◌, ap, map}
use Rattle.std.specs.FinMap as fin
use Rattle.doc_types.specs.Known.{has_types}
use Rattle.doc_types.specs.SchemaCodes.{name_cmp}
use Rattle.doc_types.specs.SchemaMaps.{type_pair}
use Rattle.doc_types.proofs.schema.Schema.has_types.Goals as goal

pub returns : goal.returns
returns c = rw (← c.self.view_is)
    (c.some_type.ensures ∙ ap (λ l. has_types (fin.from_entries {R = name_cmp} (map type_pair l))) c.deref.ensures.value)
