use Rattle.std.proofs.Common.{refl, sym, ap, ◌∙◌, subst}
use Rattle.std.proofs.lemmas.List.{with_items_is}
use Rattle.session_cluster.specs.Cells.{lanes_in}
use Rattle.session_cluster.specs.Steps.{after_state, EachLane, MayAnnounce}
use Rattle.session_cluster.proofs.InLane.{no_fault, all_announced, all_left, same_many}
use Rattle.session_cluster.proofs.ShelvedLanes.{each_with, cell_of, lanes_of, shelves_of}
use Rattle.session_cluster.proofs.Reborrowed.{still_session}
use Rattle.session_cluster.proofs.session.Session.tell_roomy.Goals as goal

pub announce_all-requires : goal.announce_all-requires
announce_all-requires g c =
    each_with (MayAnnounce c.args.state.now) _ (subst (EachLane (MayAnnounce c.args.state.now)) (sym (ap lanes_in c.deref_mut.ensures.value ∙ ap lanes_of c.self.view_is))
    (c.requires (no_fault c.args.state.now c.args.self.now.cell _ (ap cell_of c.self.view_is) c.in-Ok.ensures.none)))

pub returns-in-Ok-clause-told : goal.returns-in-Ok-clause-told
returns-in-Ok-clause-told g c =
    all_announced c.args.line c.args.state.now c.args.deaf c.args.self.now.cell _ c.self.inside.lanes.items _ c.announce_all.new.lanes _ _ (ap cell_of c.self.view_is) refl c.deref_mut.ensures.value c.in-Ok.ensures.ok c.announce_all.ensures.after c.announce_all.ensures.holds c.in-Ok.ensures.none
    (with_items_is c.self.inside.lanes c.announce_all.new.lanes (same_many (after_state c.args.state.now c.args.deaf) c.self.inside.lanes.items _ c.announce_all.new.lanes _ c.self.inside.lanes.ok.0 c.deref_mut.ensures.value c.announce_all.ensures.after))

pub returns-in-Ok-clause-shelves : goal.returns-in-Ok-clause-shelves
returns-in-Ok-clause-shelves g c =
    all_left (after_state c.args.state.now c.args.deaf) c.self.inside.lanes.items _ c.announce_all.new.lanes _ _ (ap shelves_of c.self.view_is) c.deref_mut.ensures.value c.announce_all.ensures.after
    (with_items_is c.self.inside.lanes c.announce_all.new.lanes (same_many (after_state c.args.state.now c.args.deaf) c.self.inside.lanes.items _ c.announce_all.new.lanes _ c.self.inside.lanes.ok.0 c.deref_mut.ensures.value c.announce_all.ensures.after))

pub invariant_of-self : goal.invariant_of-self
invariant_of-self g c =
    let many = same_many (after_state c.args.state.now c.args.deaf) c.self.inside.lanes.items _ c.announce_all.new.lanes _ c.self.inside.lanes.ok.0 c.deref_mut.ensures.value c.announce_all.ensures.after in
    still_session _ _ c.self.inside.lanes.items c.announce_all.new.lanes _ _ _ c.self.invariant c.self.inside.lanes.ok.0 many (with_items_is c.self.inside.lanes c.announce_all.new.lanes many)
