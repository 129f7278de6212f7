use Rattle.std.proofs.Common.{ap, sym, subst}
use Rattle.session_cluster.specs.Steps.{AreSettled}
use Rattle.session_cluster.proofs.SearchLaws.{noted_whole}
use Rattle.session_cluster.proofs.ShelvedLanes.{cell_of}
use Rattle.session_cluster.proofs.session.Session.search_now.Goals as goal

pub returns-clause-ok : goal.returns-clause-ok
returns-clause-ok g c types typed =
    noted_whole types c.args.line c.args.query c.args.self.now.cell c.note_fronts.new.self.cell c.in_ok-answer.answer _ typed c.requires.new c.in_ok-answer.ensures.fronts c.in_ok-answer.ensures.answer
    (ap cell_of c.in_ok-note_fronts.ensures.ok)

pub returns-clause-settled : goal.returns-clause-settled
returns-clause-settled g c = subst AreSettled (sym c.in_ok-note_fronts.ensures.ok) (record { shelves = c.requires.settled.shelves; few = c.requires.settled.few })
