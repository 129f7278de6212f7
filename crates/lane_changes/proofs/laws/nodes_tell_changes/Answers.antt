use Rattle.lane_changes.proofs.Telling.{keeping-is, told}
use Rattle.lane_changes.proofs.laws.nodes_tell_changes.Goals as goal

pub returns : goal.returns
returns c = record {
  kept = λ S J n x l h. keeping-is c.entries_are_written.ensures.stamped S J l n x h;
  told = λ S J number m x r l f h. told c.entries_are_written.ensures.stamped S J l number m x r f h;
}
