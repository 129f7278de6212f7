use Rattle.pass_machine.specs.declared.doing.UpkeepStep.TheVariants.{Tell, Decide, Accept, Round}
use Rattle.pass_machine.specs.declared.doing.Turn.TheVariants.{Says}
use Rattle.pass_runs.proofs.Beginning.{pass_begins}
use Rattle.pass_runs.proofs.Assembly.{this_turn_goes, goes_over}
use Rattle.pass_runs.proofs.laws.passes_stand.Goals as goal

pub returns-clause-begins : goal.returns-clause-begins
returns-clause-begins c = λ s still v made notes ns under none free. pass_begins s still v made notes ns under none free

pub returns-clause-over : goal.returns-clause-over
returns-clause-over c = λ s still first v made notes d e ns under over x. goes_over s still first v made notes d e ns under over x

pub returns-clause-told : goal.returns-clause-told
returns-clause-told c = λ s still first v made notes d ns n b under names is x. this_turn_goes s still first v made notes d (Says (Tell n b)) ns under is x names

pub returns-clause-decided : goal.returns-clause-decided
returns-clause-decided c = λ s still first v w made notes after d ns at x under later is changes forgets h. this_turn_goes s still first v made notes d (Says (Decide at x)) ns under is h w after later changes forgets

pub returns-clause-accepted : goal.returns-clause-accepted
returns-clause-accepted c = λ s still first v w made notes d ns at under later is changes h. this_turn_goes s still first v made notes d (Says (Accept at)) ns under is h w later changes

pub returns-clause-rounded : goal.returns-clause-rounded
returns-clause-rounded c = λ s still first v w made now notes after d ns ms at under later is round makes h. this_turn_goes s still first v made notes d (Says (Round at)) ns under is h w now after ms later round makes
