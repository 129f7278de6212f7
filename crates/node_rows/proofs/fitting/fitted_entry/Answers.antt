use Rattle.std.proofs.Common.{◌≡◌, true, sym, ap, ap₂, ◌∙◌, Some}
use Rattle.std.specs.List.{list_all}
use Rattle.std.specs.FinMap as fin
use Rattle.proof_basics.proofs.Results.{if_ok}
use Rattle.document_ids.specs.Parts.{type_of}
use Rattle.documents.specs.declared.entry.Entry.{Entry}
use Rattle.node_rows.specs.Kept.{pair_fits}
use Rattle.node_rows.proofs.FitLaws.{all_fitted}
use Rattle.node_rows.proofs.fitting.fitted_entry.Goals as goal

pub returns-then-all_fit-clause-body : goal.returns-then-all_fit-clause-body
returns-then-all_fit-clause-body c =
    let types = c.args.schema.now in
    let d = c.args.document.now in
    let all : list_all (pair_fits (fin.get types (type_of d.id))) (fin.entries d.fields) ≡ true =
    ap₂ (λ name es. list_all (pair_fits (fin.get types name)) es) (sym (c.type_name.ensures ∙ ap type_of c.id.ensures)) (sym c.fields.ensures) ∙ sym c.all_fit.ensures ∙ c.if-all_fit.true in
    if_ok c.copy.result (λ x e. ap (λ (y : Entry). y.body) e ∙ c.requires ∙ ap Some (sym (all_fitted types d all))) c.copy.ensures
