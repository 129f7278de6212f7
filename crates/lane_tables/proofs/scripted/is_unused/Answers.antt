use Rattle.std.proofs.Common.{List, subst}
use Rattle.lane_journals.specs.declared.event.LaneEvent.{LaneEvent}
use Rattle.lane_journals.specs.Meanings.{history}
use Rattle.lane_keeping.specs.Lines.{IsFresh}
use Rattle.lane_tables.proofs.scripted.is_unused.Goals as goal

pub returns : goal.returns
returns c = λ so. subst (λ (J : List LaneEvent). IsFresh (history J) c.args.line) c.journal.ensures.events (c.has_no_event.ensures so)
