use Rattle.std.proofs.Common.{◌∙◌, sym, map, bytes_eq, rules, tests}
use Rattle.std.specs.String.{string_bytes}
use Rattle.std.specs.FinMap as fin
use Rattle.std.proofs.lemmas.Iterator.{YieldsList-from_slice}
use Rattle.std.proofs.lemmas.Iterator.Search.{find_from_yields_List}
use Rattle.doc_types.specs.SchemaMaps.{field_pair}
use Rattle.doc_types.proofs.Finding.{found, lent}
use Rattle.doc_types.proofs.schema.type_named.Goals as goal

pub returns : goal.returns
returns c =
    lent (λ x. string_bytes x.name) (λ t. fin.from_entries (map field_pair t.fields.items)) c.find.result _
    (find_from_yields_List (λ x. bytes_eq (string_bytes x.name) c.args.name.now) _ _ c.find.result c.find.ensures.ran (YieldsList-from_slice c.args.types.now cc) (λ x b q k. search (rules, tests)))
    ∙ sym (found (λ x. string_bytes x.name) (λ t. fin.from_entries (map field_pair t.fields.items)) c.args.name.now c.args.types.now)
