use Rattle.feed_lines.proofs.SetLaws.{has_set_of}
use Rattle.feed_lines.proofs.SettingLaws.{state_means, means_state, stop_means, means_stop, start_means, means_start, net_means, means_net}
use Rattle.feed_lines.proofs.TruthLaws.{maintain_means, means_maintain, barrier_means, means_barrier}
use Rattle.feed_lines.proofs.laws.other_lines_are_settings.Goals as goal

pub returns-clause-state : goal.returns-clause-state
returns-clause-state c = λ types bits d text deaf. (state_means types bits d text deaf, means_state types bits d text deaf)

pub returns-clause-stop : goal.returns-clause-stop
returns-clause-stop c = λ types bits d node. (stop_means types bits d node, means_stop types bits d node)

pub returns-clause-start : goal.returns-clause-start
returns-clause-start c = λ types bits d node. (start_means types bits d node, means_start types bits d node)

pub returns-clause-net : goal.returns-clause-net
returns-clause-net c = λ types bits d lane fates. (net_means types bits d lane fates, means_net types bits d lane fates)

pub returns-clause-maintain : goal.returns-clause-maintain
returns-clause-maintain c = λ types bits d. (maintain_means types bits d, means_maintain types bits d)

pub returns-clause-barrier : goal.returns-clause-barrier
returns-clause-barrier c = λ types bits d. (barrier_means types bits d, means_barrier types bits d)

pub returns-clause-members : goal.returns-clause-members
returns-clause-members c = has_set_of
