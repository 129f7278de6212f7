use Rattle.std.proofs.Common.{◌∙◌, sym, ap, map, sum}
use Rattle.std.specs.FinMap.{entries-from_sorted}
use Rattle.doc_types.specs.SchemaCodes.{name_cmp}
use Rattle.documents.specs.Fields.{pairs}
use Rattle.documents.specs.Sizes.{field_size, capped, size_of}
use Rattle.documents.proofs.document.Document.size.Goals as goal

pub returns : goal.returns
returns c =
    c.fields_size.ensures ∙ ap (λ l. capped (sum (map field_size (pairs l)))) c.deref.ensures.value
    ∙ ap (λ es. capped (sum (map field_size es))) (sym (entries-from_sorted name_cmp (pairs c.self.inside.fields.items) c.self.invariant))
    ∙ ap (λ d. size_of d.fields) c.self.view_is
