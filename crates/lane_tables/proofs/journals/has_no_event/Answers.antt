use Rattle.std.proofs.Common.{List, take, sym, subst}
use Rattle.lane_journals.specs.declared.event.LaneEvent.{LaneEvent}
use Rattle.lane_journals.specs.KeptJournals.{past}
use Rattle.lane_journals.specs.Meanings.{history}
use Rattle.lane_keeping.specs.Lines.{IsFresh}
use Rattle.operation_keeping.proofs.Lines.{fresh-waits}
use Rattle.lane_tables.proofs.Walking.{none-past, past-more, past-all, fresh-none}
use Rattle.lane_tables.proofs.journals.has_no_event.Goals as goal

pub loop-at-init : goal.loop-at-init
loop-at-init c = subst (λ (J : List LaneEvent). IsFresh (history J) c.args.line) (sym (none-past c.args.journal.now)) (fresh-none c.args.line)

pub loop-at-preserved : goal.loop-at-preserved
loop-at-preserved c =
    subst (λ (J : List LaneEvent). IsFresh (history J) c.args.line) (sym (past-more c.args.journal.now c.loop-at.at c.index-journal-at.result c.loop-at-test.true c.index-journal-at.is))
    (fresh-waits (past (take c.loop-at.at c.args.journal.now)) c.index-journal-at.result c.args.line (c.is_of.ensures c.if-is_of.false) c.loop-at.invariant)

pub returns : goal.returns
returns c = λ _. subst (λ (J : List LaneEvent). IsFresh (history J) c.args.line) (past-all c.args.journal.now c.loop-at.at c.loop-at-test.false) c.loop-at.invariant
