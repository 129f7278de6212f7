use Rattle.std.proofs.Common.{length}
use Rattle.lane_locks.proofs.Naming.{names_ready, fed_runs, if_both}
use Rattle.lane_locks.proofs.segment.run_segment.Goals as goal

pub run_named-requires-clause-ready : goal.run_named-requires-clause-ready
run_named-requires-clause-ready g c κs lives = names_ready c.args.lanes.items (length c.args.feeders.now) c.requires.ready

pub returns-clause-ran : goal.returns-clause-ran
returns-clause-ran g c = if_both c.run_named.result _ _ _ (λ v order fed. fed_runs c.args.lanes.items (length c.args.feeders.now) v.items order fed) c.run_named.ensures.order c.run_named.ensures.fed
