use Rattle.std.proofs.Common.{◌∙◌, sym, ap}
use Rattle.session_cluster.specs.Cells.{Cell, lanes_in}
use Rattle.session_cluster.proofs.LaneLists.{no_journal, journal_at, seen-lane}
use Rattle.session_cluster.proofs.ShelvedLanes.{past_lanes}
use Rattle.session_cluster.proofs.cluster.Cluster.journal.Goals as goal

pub returns-in-Some : goal.returns-in-Some
returns-in-Some g c =
    c.journal.ensures.events
    ∙ sym (journal_at c.args.self.now.lanes c.args.lane c.in-Some.lane.now.lane
    (seen-lane c.self.inside.lanes.items _ _ _ _ c.in-Some.lane.now c.deref.ensures.value (ap (λ (x : Cell). x.lanes) c.self.view_is) c.from.ensures c.in-Some.ensures.lookup.3.0 c.in-Some.ensures.lookup.1))

pub returns-in-None : goal.returns-in-None
returns-in-None g c = no_journal _ _ _ _ (ap lanes_in c.deref.ensures.value ∙ ap (λ (x : Cell). x.lanes) c.self.view_is) c.from.ensures (past_lanes _ _ c.in-None.ensures.lookup.3)
