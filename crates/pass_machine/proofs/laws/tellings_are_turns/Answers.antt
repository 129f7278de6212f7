use Rattle.pass_machine.proofs.AllTurns.{joins_told, splits_told}
use Rattle.pass_machine.proofs.laws.tellings_are_turns.Goals as goal

pub returns-clause-joins : goal.returns-clause-joins
returns-clause-joins c = λ v s made list notes w t bits at p n agrees. joins_told v s agrees list w t bits at p n

pub returns-clause-splits : goal.returns-clause-splits
returns-clause-splits c = λ v s made list notes w at first second n agrees is_first. splits_told v s agrees list w at first second n is_first
