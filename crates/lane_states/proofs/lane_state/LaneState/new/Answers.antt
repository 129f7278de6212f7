use Rattle.std.proofs.Common.{refl, sym, ap, arith, ◌∙◌}
use Rattle.lane_journals.specs.KeptJournals.{past}
use Rattle.lane_states.specs.declared.event_log.EventLog.{EventLog}
use Rattle.lane_states.specs.Told.{handed_in}
use Rattle.lane_states.proofs.LaneSteps.{past-nil}
use Rattle.lane_states.proofs.Accepting.{accepted-none}
use Rattle.lane_states.proofs.Counts.{told-nothing}
use Rattle.lane_states.proofs.lane_state.LaneState.new.Goals as goal

pub returns-clause-handed : goal.returns-clause-handed
returns-clause-handed c = ap (λ (l : EventLog). handed_in (past l.events.items) l.kept.items) c.of.ensures ∙ rw (c.new.ensures.items, past-nil, c.new-2.ensures.items) refl

pub returns-clause-keeps : goal.returns-clause-keeps
returns-clause-keeps c = rw (returns-clause-handed c, c.new.ensures.items, past-nil, c.new-2.ensures.items, c.new-3.ensures.items, c.new-4.ensures.items, c.new-5.ensures) (record { small = c.requires.small; coming = tt; keeps = c.lanes_begin.ensures c.args.lane c.args.rules; counted = omega arith; stops_are = λ n. sym (c.none.ensures n); accepted = accepted-none c.args.lane c.args.rules; told_is = told-nothing _ _ })

pub returns-clause-journal : goal.returns-clause-journal
returns-clause-journal c = rw c.new.ensures.items past-nil
