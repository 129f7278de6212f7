use Rattle.entry_maps.proofs.JoinLaws.{joined-alone}
use Rattle.entry_maps.proofs.joins.join.Goals as goal

pub returns-clause-ok : goal.returns-clause-ok
returns-clause-ok c = joined-alone _ _ _ c.in_ok-merge.ensures.ok
