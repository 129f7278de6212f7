use Rattle.std.proofs.Common.{length}
use Rattle.session_segments.proofs.LaneRuns.{all_run_to}
use Rattle.session_segments.proofs.running.run_ready.Goals as goal

pub returns-in-Ok-clause-ran : goal.returns-in-Ok-clause-ran
returns-in-Ok-clause-ran g c =
    all_run_to (length c.args.feeders.now) c.args.ready.items c.in-Ok.fed.items c.take_apart.new.lanes.items c.take_apart.new.stages.items c.in-Ok.ensures.count c.in-Ok.ensures.ran c.take_apart.ensures.lanes c.take_apart.ensures.stages
