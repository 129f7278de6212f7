use Rattle.std.proofs.Common.{List, subst}
use Rattle.std.specs.Option.{IsSome}
use Rattle.lane_journals.specs.declared.event.LaneEvent.{LaneEvent}
use Rattle.lane_keeping.specs.Tidings.{last_state}
use Rattle.lane_tables.proofs.scripted.has_state.Goals as goal

pub returns : goal.returns
returns c = λ so. subst (λ (J : List LaneEvent). IsSome (last_state J)) c.journal.ensures.events (c.is_published.ensures so)
