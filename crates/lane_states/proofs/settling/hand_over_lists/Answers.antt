use Rattle.std.proofs.Common.{rules, ◌∙◌, ap}
use Rattle.lane_states.specs.Told.{all_kept}
use Rattle.lane_states.proofs.Shelving.{takes-list}
use Rattle.lane_states.proofs.settling.hand_over_lists.Goals as goal

pub returns-in-Err-clause-taken : goal.returns-in-Err-clause-taken
returns-in-Err-clause-taken g c = rw c.push_front_reserved.ensures.items (takes-list _ _ _ _ _ _ _ _ _ _ _ (ap all_kept c.in-Some.ensures.items) c.in-Err.ensures.back c.loop-changes.invariant.taken)

pub loop-changes-preserved : goal.loop-changes-preserved
loop-changes-preserved g c = record {
  taken = takes-list _ _ _ _ _ _ _ _ _ _ _ (ap all_kept c.in-Some.ensures.items) c.in_default-hand_over_list.ensures.taken c.loop-changes.invariant.taken;
  name = c.hand_over_list.ensures.name ∙ c.loop-changes.invariant.name;
  lists = search rules;
  places = search rules;
}
