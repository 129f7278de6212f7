use Rattle.ideal_nodes.specs.Choosing.{score_at}
use Rattle.ideal_nodes.proofs.StateMarks.{ideal_of_set}
use Rattle.ideal_nodes.proofs.Groups.{lie_apart}
use Rattle.ideal_nodes.proofs.placement.ideal.Goals as goal

pub returns-clause-order : goal.returns-clause-order
returns-clause-order c = ideal_of_set c.args.bucket c.args.state.now c.nodes_up-nodes.result (score_at c.ranks_of-ranks.result) (score_at c.scores_of-scores.result) c.in_order.result
    c.version-version.ensures.valid c.nodes_up-nodes.ensures c.scores_of-scores.ensures c.ranks_of-ranks.ensures c.in_order.ensures.ranked c.in_order.ensures.members

pub returns-clause-apart : goal.returns-clause-apart
returns-clause-apart c = lie_apart c.args.bucket c.args.state.now c.in_order.result (returns-clause-order c)
