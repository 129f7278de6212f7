use Rattle.std.proofs.Common.{sym, subst}
use Rattle.session_cluster.specs.Cells.{IsCluster}
use Rattle.session_cluster.proofs.ShelvedLanes.{same_count}
use Rattle.session_cluster.proofs.session.Session.leave.Goals as goal

pub invariant_of-drop : goal.invariant_of-drop
invariant_of-drop g c = subst (IsCluster _) (sym (same_count _ _ c.unshelve_all.ensures)) c.self.invariant.cluster
