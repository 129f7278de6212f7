use Rattle.std.proofs.Common.{◌∙◌, sym, bytes_eq, rules, tests}
use Rattle.std.specs.String.{string_bytes}
use Rattle.std.proofs.lemmas.Iterator.{YieldsList-from_slice}
use Rattle.std.proofs.lemmas.Iterator.Search.{find_from_yields_List}
use Rattle.doc_types.proofs.Finding.{found, lent}
use Rattle.doc_types.proofs.schema.field_named.Goals as goal

pub returns : goal.returns
returns c =
    lent (λ x. string_bytes x.name) (λ f. f.kind) c.find.result _
    (find_from_yields_List (λ x. bytes_eq (string_bytes x.name) c.args.name.now) _ _ c.find.result c.find.ensures.ran (YieldsList-from_slice c.args.fields.now cc) (λ x b q k. search (rules, tests)))
    ∙ sym (found (λ x. string_bytes x.name) (λ f. f.kind) c.args.name.now c.args.fields.now)
