use Rattle.std.proofs.Common.{◌∙◌, ap, Some}
use Rattle.std.specs.FinMap as fin
use Rattle.doc_types.specs.SchemaCodes.{name_cmp}
use Rattle.documents.specs.Fields.{pairs}
use Rattle.documents.proofs.FieldLaws.{got}
use Rattle.documents.proofs.document.Document.get.Goals as goal

pub returns-in-Some : goal.returns-in-Some
returns-in-Some c =
    ap Some c.value.ensures ∙ c.in-Some.ensures ∙ ap (λ l. fin.find name_cmp c.args.field.now (pairs l)) c.deref.ensures.value
    ∙ got _ c.args.field.now c.self.invariant ∙ ap (λ d. fin.get d.fields c.args.field.now) c.self.view_is

pub returns-in-None : goal.returns-in-None
returns-in-None c =
    c.in-None.ensures ∙ ap (λ l. fin.find name_cmp c.args.field.now (pairs l)) c.deref.ensures.value
    ∙ got _ c.args.field.now c.self.invariant ∙ ap (λ d. fin.get d.fields c.args.field.now) c.self.view_is
