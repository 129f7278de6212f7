use Rattle.std.proofs.Common.{◌∙◌, ◌&&◌, not, Bool, ap₂}
use Rattle.pass_machine.proofs.skips.spare.Goals as goal

pub returns : goal.returns
returns c = λ v sees row has n few.
    c.difference.ensures n ∙ ap₂ (λ (s t : Bool). s && not t) (c.exact_nodes.ensures n few) (c.targets_of.ensures v sees row has n)
