use Rattle.std.proofs.Common.{◌∙◌, ◌==◌, ◌&&◌, not, Bool, ap}
use Rattle.pass_machine.proofs.Keepers.{enough_are}
use Rattle.pass_machine.proofs.settling.are_enough.Goals as goal

pub returns : goal.returns
returns c =
    c.has_at_least.ensures
    ∙ enough_are c.args.acks c.without-keepers.result c.args.row.now c.args.note.now c.args.node
    (λ n. c.without-keepers.ensures n ∙ ap (λ (b : Bool). b && not (n == c.args.node)) (c.intersection.ensures n))
