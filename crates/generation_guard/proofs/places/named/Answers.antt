use Rattle.std.proofs.Common.{◌∙◌, ap, fold, List}
use Rattle.generation_guard.specs.declared.face.FaceStep.{FaceStep}
use Rattle.generation_guard.specs.Faces.{shown_by, stepped}
use Rattle.generation_guard.proofs.Rules.{names, first_agrees}
use Rattle.generation_guard.proofs.places.named.Goals as goal

pub new-requires-clause-rule : goal.new-requires-clause-rule
new-requires-clause-rule g c = first_agrees c.args.first c.requires.none

pub publish_as-writer-requires : goal.publish_as-writer-requires
publish_as-writer-requires g c next is =
    let x = c.in_ok-writer.writer.desk.shown.value in
    names _ _ x next (is ∙ ap (λ (ss : List FaceStep). fold stepped (shown_by x) ss) c.in_ok-writer.ensures.1)
