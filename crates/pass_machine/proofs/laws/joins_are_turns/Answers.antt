use Rattle.pass_machine.proofs.Pairs.{join_pairs}
use Rattle.pass_machine.proofs.laws.joins_are_turns.Goals as goal

pub returns : goal.returns
returns c = λ v s made list notes w t bits at most lane h are more. join_pairs v s list notes w most lane h are t bits at more
