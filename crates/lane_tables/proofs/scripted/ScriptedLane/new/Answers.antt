use Rattle.lane_tables.proofs.Staged.{new-scripted}
use Rattle.lane_tables.proofs.scripted.ScriptedLane.new.Goals as goal

pub invariant_of-result : goal.invariant_of-result
invariant_of-result c = new-scripted _ _ _ c.in_ok-setting.ensures c.in_ok-lane.ensures.lane c.in_ok-lane.ensures.rules c.in_ok-stages.ensures
