use Rattle.std.proofs.Common.{◌∙◌, ap}
use Rattle.std.specs.FinMap as fin
use Rattle.documents.proofs.FieldLaws.{of_sorted}
use Rattle.doc_updates.specs.Updates.{pairs}
use Rattle.doc_updates.proofs.update.Update.of.Goals as goal

pub returns : goal.returns
returns c = ap (λ v. fin.from_sorted (pairs v.items)) c.in_ok-new.ensures.ok ∙ of_sorted _ c.requires.sorted
