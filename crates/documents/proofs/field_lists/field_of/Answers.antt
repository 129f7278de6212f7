use Rattle.std.proofs.Common.{◌∙◌, sym, bytes_eq, rules, tests}
use Rattle.std.proofs.lemmas.Iterator.{YieldsList-from_slice}
use Rattle.std.proofs.lemmas.Iterator.Search.{find_from_yields_List}
use Rattle.documents.proofs.FieldLaws.{found, lent}
use Rattle.documents.proofs.field_lists.field_of.Goals as goal

pub returns : goal.returns
returns c =
    lent c.find.result _
    (find_from_yields_List (λ x. bytes_eq x.name c.args.name.now) _ _ c.find.result c.find.ensures.ran (YieldsList-from_slice c.args.fields.now cc) (λ x b q k. search (rules, tests)))
    ∙ sym (found c.args.name.now c.args.fields.now)
