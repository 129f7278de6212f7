use Rattle.std.proofs.Common.{◌≡◌, OnOk, ap, ap₂, ◌∙◌, map, refl, sym, subst}
use Rattle.std.proofs.lemmas.Result.{IfOk-weaker}
use Rattle.lane_core.specs.Showing.{view_in}
use Rattle.session_cluster.specs.Cells.{ShownCell, lanes_in}
use Rattle.search_views.specs.Answers.{search_answer}
use Rattle.session_cluster.specs.Searches.{version_now, fronts_now}
use Rattle.session_cluster.specs.Steps.{EachLane, IsSettledLane}
use Rattle.session_cluster.proofs.ShelvedLanes.{each_settled, few_lanes_in, cell_of, lanes_of, shelves_of}
use Rattle.session_cluster.proofs.session.Session.read.Goals as goal

pub search_all-requires-clause-settled : goal.search_all-requires-clause-settled
search_all-requires-clause-settled g c =
    subst (EachLane IsSettledLane) (sym c.deref.ensures.value) (each_settled c.self.inside.lanes.items c.args.self.now (sym (ap lanes_of c.self.view_is)) (sym (ap shelves_of c.self.view_is)) c.requires.settled)

pub search_all-requires-clause-few : goal.search_all-requires-clause-few
search_all-requires-clause-few g c = few_lanes_in c.args.self.now.cell _ c.self.inside.lanes.items _ (ap cell_of c.self.view_is) refl c.deref.ensures.value c.requires.few

pub returns-clause-fronts : goal.returns-clause-fronts
returns-clause-fronts g c = subst (λ vs. OnOk c.search_all.result (c.search_all.new.fronts.items ≡ fronts_now vs)) (ap lanes_in c.deref.ensures.value ∙ ap lanes_of c.self.view_is) c.search_all.ensures.fronts

pub returns-clause-answer : goal.returns-clause-answer
returns-clause-answer g c =
    IfOk-weaker c.search_all.result _ _ (λ answer told.
    told ∙ ap (λ q. search_answer q c.version_told-version.result (map view_in (lanes_in c.deref.result.now))) c.query-query.ensures
    ∙ ap₂ (λ w vs. search_answer c.args.query w (map view_in vs)) (c.version_told-version.ensures ∙ ap (λ (s : ShownCell). version_now s.cell.told) c.self.view_is) (ap lanes_in c.deref.ensures.value ∙ ap lanes_of c.self.view_is))
    c.search_all.ensures.answer
