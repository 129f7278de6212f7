use Rattle.std.proofs.Common.{◌∙◌, sym, ap, subst}
use Rattle.std.specs.Prelude.{T}
use Rattle.std.specs.FinMap as fin
use Rattle.std.specs.FinMap.{entries_sorted}
use Rattle.serde_json.specs.Data.{object}
use Rattle.serde_json.proofs.Views.{view-Object}
use Rattle.doc_types.specs.SchemaCodes.{name_cmp}
use Rattle.json_documents.specs.Json.{members_json}
use Rattle.json_documents.proofs.document_json.fields_json.Goals as goal

pub members_json-requires : goal.members_json-requires
members_json-requires c = subst (λ l. T (fin.is_sorted name_cmp l)) (sym c.fields.ensures) (entries_sorted c.args.document.now.fields)

pub returns : goal.returns
returns c =
    view-Object c.in_ok-members_json.field-0
    ∙ ap object (c.in_ok-members_json.ensures ∙ ap members_json c.fields.ensures)
