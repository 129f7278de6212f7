use Rattle.std.proofs.Common.{subst, sym}
use Rattle.lane_journals.specs.Meanings.{history}
use Rattle.lane_states.specs.Accepting.{AreRowsAccepted}
use Rattle.lane_states.specs.LaneStates.{journal_of}
use Rattle.lane_core.proofs.Shown.{activated-rows}
use Rattle.lane_core.proofs.lane.Lane.rows.Goals as goal

pub returns-clause-activated : goal.returns-clause-activated
returns-clause-activated g c =
    let x = c.self.inside.work.state in
    rw (← c.self.view_is) (λ v holds.
    subst (AreRowsAccepted v (history (journal_of x))) (sym c.rows_at.ensures.list) (activated-rows x c.args.distributor c.self.invariant.works.kept v holds))
