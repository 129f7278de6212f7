use Rattle.std.proofs.Common.{◌∷◌, [], ap, ◌∙◌, drop}
use Rattle.generation_guard.specs.declared.face.FaceStep.TheVariants.{Change}
use Rattle.generation_guard.specs.Faces.{changes_in}
use Rattle.generation_guard.proofs.Facing.{changes_in-append}
use Rattle.generation_guard.proofs.shared_shelf.hand.Goals as goal

pub returns-in-Ok-clause-pending : goal.returns-in-Ok-clause-pending
returns-in-Ok-clause-pending c =
    ap changes_in c.in-Ok.ensures.pending ∙ changes_in-append (drop c.args.writer.now.behind c.args.writer.now.log.items) (Change c.args.change ∷ [])
