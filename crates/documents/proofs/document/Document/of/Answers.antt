use Rattle.std.proofs.Common.{◌∙◌, ap}
use Rattle.documents.specs.Fields.{pairs}
use Rattle.documents.specs.Sizes.{size_of}
use Rattle.documents.proofs.FieldLaws.{of_sorted}
use Rattle.documents.proofs.SizeLaws.{too_large, small_enough}
use Rattle.documents.proofs.document.Document.of.Goals as goal

pub returns-then-size-gt-LARGEST-clause-refused : goal.returns-then-size-gt-LARGEST-clause-refused
returns-then-size-gt-LARGEST-clause-refused c =
    too_large _ _ (c.size-size.ensures ∙ ap size_of (of_sorted _ c.requires.sorted)) c.if-size-gt-LARGEST.true

pub returns-clause-read : goal.returns-clause-read
returns-clause-read c = (
  small_enough _ _ (c.size-size.ensures ∙ ap size_of (of_sorted _ c.requires.sorted)) c.if-size-gt-LARGEST.false,
  ap (λ m. record { id = c.args.id; fields = m }) (of_sorted (pairs c.args.fields.items) c.requires.sorted),
)
