use Rattle.std.proofs.Common.{◌∙◌, ap}
use Rattle.op_machine.specs.Outcomes.{absent_of}
use Rattle.op_machine.proofs.plan.Plan.absent.Goals as goal

pub returns : goal.returns
returns c = c.absent_in.ensures ∙ ap (absent_of c.args.self.now.active) (λ i n. c.difference.ensures n i)
