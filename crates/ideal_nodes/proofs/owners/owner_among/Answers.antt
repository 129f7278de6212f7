use Rattle.std.proofs.Common.{codes, replicate, sym, ◌∙◌}
use Rattle.ideal_nodes.specs.Scores.{score_of, Ranks, Comes}
use Rattle.ideal_nodes.specs.Choosing.{score_at}
use Rattle.ideal_nodes.proofs.Firsts.{first_same, ranks_alike}
use Rattle.ideal_nodes.proofs.Orders.{score_alone, no_rank}
use Rattle.ideal_nodes.proofs.owners.owner_among.Goals as goal

pub returns-clause-owner : goal.returns-clause-owner
returns-clause-owner c =
    let scores = score_at c.scores_of-scores.result in
    let meant = score_of (codes "owner") c.args.lane in
    first_same (Comes (score_at (replicate 32 0)) scores) (Ranks meant) c.args.distributors c.first_of.result
    (λ a b p q h. ranks_alike scores meant a b (c.scores_of-scores.ensures a p) (c.scores_of-scores.ensures b q) (score_alone scores (score_at (replicate 32 0)) a b (no_rank 32 a ∙ sym (no_rank 32 b)) h))
    c.first_of.ensures.first
