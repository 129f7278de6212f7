use Rattle.std.proofs.Common.{◌∙◌, ◌≡◌, ◌&&◌, not, true, sym, ap, is_some}
use Rattle.serde_json.specs.Find.{as_null}
use Rattle.line_values.specs.View.{view}
use Rattle.json_documents.specs.Json.{value_by}
use Rattle.json_documents.proofs.JsonLaws.{null_none}
use Rattle.json_documents.proofs.members.value_in.Goals as goal

pub returns-then-is_null-clause-read : goal.returns-then-is_null-clause-read
returns-then-is_null-clause-read c =
    let null : is_some (as_null (view c.args.value.now)) ≡ true = sym c.is_null.ensures ∙ c.if-is_null.true in
    (ap (λ b. not b && not (is_some (value_by c.args.kind (view c.args.value.now)))) null, sym (null_none c.args.kind (view c.args.value.now) null))
