use Rattle.std.proofs.Common.{◌∙◌, ap, refl, arith}
use Rattle.lane_journals.specs.KeptJournals.{past}
use Rattle.lane_states.specs.declared.event_log.EventLog.{EventLog}
use Rattle.lane_states.specs.Told.{handed_in}
use Rattle.lane_states.specs.LaneStates.{journal_of, tells_of}
use Rattle.lane_states.proofs.Shelving.{handed-none, told-dropped}
use Rattle.lane_states.proofs.lane_state.LaneState.drop_kept.Goals as goal

pub returns-clause-keeps : goal.returns-clause-keeps
returns-clause-keeps c =
    let x = c.args.self.now in
    let k = c.requires.keeps in
    record {
      small = k.small;
      keeps = k.keeps;
      coming = k.coming;
      counted = k.counted;
      stops_are = k.stops_are;
      accepted = k.accepted;
      told_is = told-dropped (journal_of x) (tells_of x) _ refl
          (ap (λ (l : EventLog). handed_in (past l.events.items) l.kept.items) c.of.ensures ∙ (ap (handed_in (journal_of x)) c.clear.ensures.items ∙ handed-none (journal_of x))) c.clear.ensures.items
          (λ room. let free = k.told_is.place room in omega (arith, free, c.clear.ensures.len, c.clear.ensures.capacity)) k.told_is;
    }
