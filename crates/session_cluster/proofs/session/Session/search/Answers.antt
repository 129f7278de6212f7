use Rattle.std.proofs.Common.{ap, sym, subst}
use Rattle.session_cluster.specs.Steps.{AreSettled}
use Rattle.session_cluster.proofs.SearchLaws.{searched_whole}
use Rattle.session_cluster.proofs.ShelvedLanes.{cell_of}
use Rattle.session_cluster.proofs.session.Session.search.Goals as goal

pub returns-clause-ok : goal.returns-clause-ok
returns-clause-ok g c types typed =
    let told = c.in_ok-answer.ensures.ok types typed in
    searched_whole types c.args.line c.args.query c.args.self.now.cell c.search_now.new.self.cell c.deal_up_to.new.self.cell c.in_ok-answer.answer told.0 told.1 (ap cell_of c.deal_up_to.ensures)

pub returns-clause-settled : goal.returns-clause-settled
returns-clause-settled g c = subst AreSettled (sym c.deal_up_to.ensures) (record { shelves = c.in_ok-answer.ensures.settled.shelves; few = c.in_ok-answer.ensures.settled.few })
