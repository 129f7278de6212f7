use Rattle.std.proofs.Common.{List, refl, ap, sym, subst}
use Rattle.std.proofs.lemmas.List.{with_items_is}
use Rattle.std.proofs.lemmas.Result.{on_ok_weaker}
use Rattle.session_cluster.specs.Cells.{ShownCell, ShownLane, lanes_in, shelves_in}
use Rattle.session_cluster.specs.Steps.{EachLane, IsSettledLane, AreOpened}
use Rattle.session_cluster.proofs.Reborrowed.{still_session, shown_many, same_cell}
use Rattle.session_cluster.proofs.ShelvedLanes.{all_settled, are_settled, cell_of}
use Rattle.session_cluster.proofs.session.Session.settle.Goals as goal

pub invariant_of-self : goal.invariant_of-self
invariant_of-self g c =
    let many = shown_many c.self.inside.lanes.items _ c.settle_all.new.lanes _ c.self.inside.lanes.ok.0 c.deref_mut.ensures.value c.settle_all.ensures.lanes in
    still_session _ _ c.self.inside.lanes.items c.settle_all.new.lanes _ _ _ c.self.invariant c.self.inside.lanes.ok.0 many (with_items_is c.self.inside.lanes c.settle_all.new.lanes many)

pub returns-clause-cell : goal.returns-clause-cell
returns-clause-cell g c =
    let many = shown_many c.self.inside.lanes.items _ c.settle_all.new.lanes _ c.self.inside.lanes.ok.0 c.deref_mut.ensures.value c.settle_all.ensures.lanes in
    same_cell c.args.self.now.cell _ c.self.inside.lanes.items _ c.settle_all.new.lanes _ (ap cell_of c.self.view_is) refl c.deref_mut.ensures.value c.settle_all.ensures.lanes (with_items_is c.self.inside.lanes c.settle_all.new.lanes many)

pub returns-clause-settled : goal.returns-clause-settled
returns-clause-settled g c =
    let many = shown_many c.self.inside.lanes.items _ c.settle_all.new.lanes _ c.self.inside.lanes.ok.0 c.deref_mut.ensures.value c.settle_all.ensures.lanes in
    let opened : AreOpened (lanes_in c.deref_mut.result.now) (shelves_in c.deref_mut.result.now)
    = subst (λ (xs : List ShownLane). AreOpened (lanes_in xs) (shelves_in xs)) (sym c.deref_mut.ensures.value) (subst (λ (s : ShownCell). AreOpened s.cell.lanes s.shelves) (sym c.self.view_is) c.requires) in
    on_ok_weaker c.settle_all.result (λ all. are_settled _ _ refl refl (subst (EachLane IsSettledLane) (sym (with_items_is c.self.inside.lanes c.settle_all.new.lanes many)) (all_settled _ c.settle_all.new.lanes c.settle_all.ensures.lanes c.settle_all.ensures.openings opened all)))
    c.settle_all.ensures.settled
