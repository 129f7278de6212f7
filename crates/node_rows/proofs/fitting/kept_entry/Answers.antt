use Rattle.std.proofs.Common.{sym, ap, subst, ◌∙◌}
use Rattle.std.specs.Option.{IfSome}
use Rattle.document_indexes.specs.Entering.{value_of}
use Rattle.document_indexes.proofs.PairLaws.{value_get}
use Rattle.document_rows.specs.Reading.{value_has_number}
use Rattle.node_rows.specs.Kept.{IsProper}
use Rattle.node_rows.proofs.FitLaws.{proper_fitted}
use Rattle.node_rows.proofs.fitting.kept_entry.Goals as goal

pub returns-in_ok-fitted_entry-in-Some-clause-proper : goal.returns-in_ok-fitted_entry-in-Some-clause-proper
returns-in_ok-fitted_entry-in-Some-clause-proper c =
    let types = c.args.schema.now in
    let d = c.in-Some.document.now in
    subst (λ o. IfSome o (IsProper types)) (sym c.in_ok-fitted_entry-in-Some.ensures.body)
    (proper_fitted types d (λ f q h. c.read_fields.ensures f q (ap (value_has_number q) (ap (value_of f) c.fields.ensures ∙ value_get d.fields f) ∙ h)))
