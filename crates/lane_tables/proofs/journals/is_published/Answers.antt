use Rattle.std.proofs.Common.{List, take, sym, subst}
use Rattle.std.specs.Option.{IsSome}
use Rattle.lane_journals.specs.declared.event.LaneEvent.{LaneEvent}
use Rattle.lane_journals.specs.KeptJournals.{past}
use Rattle.lane_keeping.specs.Tidings.{last_state}
use Rattle.lane_tables.proofs.Walking.{past-more, past-all}
use Rattle.lane_tables.proofs.journals.is_published.Goals as goal

pub loop-at-preserved : goal.loop-at-preserved
loop-at-preserved c = λ now.
    subst (λ (J : List LaneEvent). IsSome (last_state J)) (sym (past-more c.args.journal.now c.loop-at.at c.index-journal-at.result c.loop-at-test.true c.index-journal-at.is))
    (c.published_next-published.ensures (past (take c.loop-at.at c.args.journal.now)) c.loop-at.invariant now)

pub returns : goal.returns
returns c = λ now. subst (λ (J : List LaneEvent). IsSome (last_state J)) (past-all c.args.journal.now c.loop-at.at c.loop-at-test.false) (c.loop-at.invariant now)
