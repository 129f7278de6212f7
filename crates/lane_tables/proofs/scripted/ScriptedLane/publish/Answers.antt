use Rattle.lane_tables.proofs.Staged.{still-scripted}
use Rattle.lane_tables.proofs.scripted.ScriptedLane.publish.Goals as goal

pub invariant_of-self : goal.invariant_of-self
invariant_of-self c = still-scripted _ _ _ _ c.self.invariant c.publish_in.ensures
