use Rattle.feeder_tables.proofs.Asking.{new_may_run}
use Rattle.feeder_tables.proofs.run.ready_lane.Goals as goal

pub returns : goal.returns
returns c = new_may_run c.args.setting.now _ c.args.lane c.args.feeders _ _ c.in_ok-lane.ensures.new c.in_ok-list.ensures.feeders c.in_ok-list.ensures.of_lane
