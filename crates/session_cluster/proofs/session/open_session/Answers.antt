use Rattle.std.proofs.Common.{refl, sym, ap, subst}
use Rattle.session_cluster.specs.Steps.{AreSettled}
use Rattle.session_cluster.proofs.Openings.{kept_none}
use Rattle.session_cluster.proofs.ShelvedLanes.{are_settled, cell_of}
use Rattle.session_cluster.proofs.session.open_session.Goals as goal

pub returns-clause-kept : goal.returns-clause-kept
returns-clause-kept g c = kept_none _ _ _ _ c.in_ok-lanes.ensures.open (ap cell_of c.new.ensures)

pub returns-clause-settled : goal.returns-clause-settled
returns-clause-settled g c = subst AreSettled (sym c.new.ensures) (are_settled _ _ refl refl c.in_ok-lanes.ensures.settled)
