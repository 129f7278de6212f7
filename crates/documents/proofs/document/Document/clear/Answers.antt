use Rattle.std.proofs.Common.{◌∙◌, ap}
use Rattle.std.specs.FinMap as fin
use Rattle.documents.specs.Fields.{pairs}
use Rattle.documents.proofs.FieldLaws.{cleared, sorted_cleared, map_cleared}
use Rattle.documents.proofs.document.Document.clear.Goals as goal

pub invariant_of-self : goal.invariant_of-self
invariant_of-self c =
    rw (ap pairs c.clear_in.ensures ∙ cleared c.args.field.now _) (sorted_cleared _ c.args.field.now c.self.invariant)

pub returns-clause-fields : goal.returns-clause-fields
returns-clause-fields c =
    ap fin.from_sorted (ap pairs c.clear_in.ensures ∙ cleared c.args.field.now _)
    ∙ map_cleared _ c.args.field.now c.self.invariant
    ∙ ap (λ d. fin.remove d.fields c.args.field.now) c.self.view_is
