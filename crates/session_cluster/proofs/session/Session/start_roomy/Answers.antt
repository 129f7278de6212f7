use Rattle.std.proofs.Common.{refl, sym, ap, ◌∙◌, subst}
use Rattle.std.proofs.lemmas.List.{with_items_is}
use Rattle.session_cluster.specs.Cells.{lanes_in}
use Rattle.session_cluster.specs.Steps.{after_start, EachLane, IsRoomy}
use Rattle.session_cluster.proofs.InLane.{all_did, all_left, same_many}
use Rattle.session_cluster.proofs.ShelvedLanes.{each_with, cell_of, lanes_of, shelves_of}
use Rattle.session_cluster.proofs.Reborrowed.{still_session}
use Rattle.session_cluster.proofs.session.Session.start_roomy.Goals as goal

pub start_all-requires-clause-roomy : goal.start_all-requires-clause-roomy
start_all-requires-clause-roomy g c = each_with IsRoomy _ (subst (EachLane IsRoomy) (sym (ap lanes_in c.deref_mut.ensures.value ∙ ap lanes_of c.self.view_is)) c.requires.roomy)

pub returns-clause-done : goal.returns-clause-done
returns-clause-done g c =
    all_did c.args.line (after_start c.args.node) c.args.self.now.cell _ c.self.inside.lanes.items _ c.start_all.new.lanes _ (ap cell_of c.self.view_is) refl c.deref_mut.ensures.value c.start_all.ensures.after c.start_all.ensures.holds
    (with_items_is c.self.inside.lanes c.start_all.new.lanes (same_many (after_start c.args.node) c.self.inside.lanes.items _ c.start_all.new.lanes _ c.self.inside.lanes.ok.0 c.deref_mut.ensures.value c.start_all.ensures.after))

pub returns-clause-shelves : goal.returns-clause-shelves
returns-clause-shelves g c =
    all_left (after_start c.args.node) c.self.inside.lanes.items _ c.start_all.new.lanes _ _ (ap shelves_of c.self.view_is) c.deref_mut.ensures.value c.start_all.ensures.after
    (with_items_is c.self.inside.lanes c.start_all.new.lanes (same_many (after_start c.args.node) c.self.inside.lanes.items _ c.start_all.new.lanes _ c.self.inside.lanes.ok.0 c.deref_mut.ensures.value c.start_all.ensures.after))

pub invariant_of-self : goal.invariant_of-self
invariant_of-self g c =
    let many = same_many (after_start c.args.node) c.self.inside.lanes.items _ c.start_all.new.lanes _ c.self.inside.lanes.ok.0 c.deref_mut.ensures.value c.start_all.ensures.after in
    still_session _ _ c.self.inside.lanes.items c.start_all.new.lanes _ _ _ c.self.invariant c.self.inside.lanes.ok.0 many (with_items_is c.self.inside.lanes c.start_all.new.lanes many)
