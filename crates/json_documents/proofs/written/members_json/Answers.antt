use Rattle.std.proofs.Common.{◌∙◌, ◌<◌, length, ap, add-one}
use Rattle.serde_json.specs.View.{members_view}
use Rattle.serde_json.proofs.Views.{members_view-insert_entry}
use Rattle.json_documents.specs.Json.{members_json}
use Rattle.json_documents.proofs.JsonLaws.{json_more}
use Rattle.json_documents.proofs.written.members_json.Goals as goal

pub loop-field-preserved : goal.loop-field-preserved
loop-field-preserved c =
    let xs = c.args.fields.now in
    let i = c.loop-field.field-index in
    let lt : i < length xs = c.loop-field-test.true in
    let named = c.in_ok-name.ensures.ok ∙ c.name.ensures ∙ ap (λ f. f.name) c.field-item.is in
    let valued = c.in_ok-value.ensures ∙ ap (λ v. Rattle.json_documents.specs.Json.value_json v) (c.value.ensures ∙ ap (λ f. f.value) c.field-item.is) in
    ap members_view c.in_ok-insert.ensures.entries ∙ members_view-insert_entry c.loop-field.members.entries c.in_ok-name.name c.in_ok-value.value
    ∙ rw (named, valued, c.loop-field.invariant, add-one) (json_more xs i c.field-item.result lt c.requires)
