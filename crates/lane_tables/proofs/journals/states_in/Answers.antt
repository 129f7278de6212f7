use Rattle.std.proofs.Common.{take, sym, ap, ◌∙◌}
use Rattle.cluster_states.specs.Publishing.{Told}
use Rattle.lane_journals.specs.KeptJournals.{past}
use Rattle.lane_journals.specs.Places.{published_states}
use Rattle.lane_tables.proofs.Walking.{none-published, past-more, past-all, told-same}
use Rattle.lane_tables.proofs.journals.states_in.Goals as goal

pub loop-at-init : goal.loop-at-init
loop-at-init c = (ap (λ (t : Told). t.acks) c.new-states.ensures, ap (λ (t : Told). t.states) c.new-states.ensures ∙ none-published c.args.journal.now)

pub loop-at-preserved : goal.loop-at-preserved
loop-at-preserved c =
    let J = past (take c.loop-at.at c.args.journal.now) in (
      c.publish_of.ensures.acks ∙ c.loop-at.invariant.0,
      c.publish_of.ensures.more c.if-not-publish_of.false J c.loop-at.invariant.1
          ∙ ap published_states (sym (past-more c.args.journal.now c.loop-at.at c.index-journal-at.result c.loop-at-test.true c.index-journal-at.is)),
    )

pub returns : goal.returns
returns c = told-same _ _ _ c.loop-at.invariant.0 (c.loop-at.invariant.1 ∙ ap published_states (past-all c.args.journal.now c.loop-at.at c.loop-at-test.false))
