use Rattle.std.proofs.Common.{◌∙◌, sym, ap}
use Rattle.lane_journals.specs.Meanings.{entry_at}
use Rattle.session_cluster.specs.Lanes.{Journal}
use Rattle.session_cluster.proofs.LaneLists.{journal_at, seen-lane}
use Rattle.session_cluster.proofs.ShelvedLanes.{lanes_of}
use Rattle.session_cluster.proofs.session.Session.entry_at.Goals as goal

pub returns-in-Some : goal.returns-in-Some
returns-in-Some g c =
    c.entry.ensures
    ∙ ap (λ (J : Journal). entry_at c.args.stamp J)
    (sym (journal_at c.args.self.now.cell.lanes c.args.at c.in-Some.lane.now.lane
    (seen-lane c.self.inside.lanes.items _ _ _ _ c.in-Some.lane.now c.deref.ensures.value (ap lanes_of c.self.view_is) c.from.ensures c.in-Some.ensures.lookup.3.0 c.in-Some.ensures.lookup.1)))
