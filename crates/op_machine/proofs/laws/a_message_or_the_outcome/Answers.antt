use Rattle.std.proofs.Common.{◌≡◌, refl, is_some, not}
use Rattle.op_machine.specs.Outcomes.{Next, Asks, Finishes, message_in, outcome_in}
use Rattle.op_machine.proofs.laws.a_message_or_the_outcome.Goals as goal

one_of : (next : Next) → is_some (message_in next) ≡ not (is_some (outcome_in next))
one_of (Asks m) = refl
one_of (Finishes x) = refl

pub returns : goal.returns
returns c = one_of
