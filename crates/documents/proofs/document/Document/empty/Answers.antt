use Rattle.std.proofs.Common.{◌∙◌, ap}
use Rattle.std.specs.FinMap as fin
use Rattle.documents.specs.Fields.{pairs}
use Rattle.documents.proofs.FieldLaws.{none_sorted}
use Rattle.documents.proofs.document.Document.empty.Goals as goal

pub returns-clause-fields : goal.returns-clause-fields
returns-clause-fields c = ap (λ l. fin.from_sorted (pairs l)) c.new.ensures.items ∙ none_sorted
