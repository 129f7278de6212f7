use Rattle.std.proofs.Common.{refl, ap}
use Rattle.std.proofs.lemmas.List.{with_items_is}
use Rattle.session_cluster.proofs.Reborrowed.{still_session, room_many, room_made, room_wanted}
use Rattle.session_cluster.proofs.ShelvedLanes.{cell_of}
use Rattle.session_cluster.proofs.session.Session.make_room.Goals as goal

pub invariant_of-self : goal.invariant_of-self
invariant_of-self g c =
    let many = room_many c.make_room.result c.self.inside.lanes.items _ c.make_room.new.lanes _ c.self.inside.lanes.ok.0 c.deref_mut.ensures.value c.make_room.ensures.ok c.make_room.ensures.err in
    still_session _ _ c.self.inside.lanes.items c.make_room.new.lanes _ _ _ c.self.invariant c.self.inside.lanes.ok.0 many (with_items_is c.self.inside.lanes c.make_room.new.lanes many)

pub returns-clause-ok : goal.returns-clause-ok
returns-clause-ok g c =
    let many = room_many c.make_room.result c.self.inside.lanes.items _ c.make_room.new.lanes _ c.self.inside.lanes.ok.0 c.deref_mut.ensures.value c.make_room.ensures.ok c.make_room.ensures.err in
    room_made c.make_room.result c.args.self.now _ c.self.inside.lanes.items _ c.make_room.new.lanes _ c.self.view_is refl refl c.deref_mut.ensures.value c.make_room.ensures.ok (with_items_is c.self.inside.lanes c.make_room.new.lanes many)

pub returns-clause-err : goal.returns-clause-err
returns-clause-err g c =
    let many = room_many c.make_room.result c.self.inside.lanes.items _ c.make_room.new.lanes _ c.self.inside.lanes.ok.0 c.deref_mut.ensures.value c.make_room.ensures.ok c.make_room.ensures.err in
    room_wanted c.make_room.result c.args.self.now.cell _ c.self.inside.lanes.items _ c.make_room.new.lanes _ (ap cell_of c.self.view_is) refl c.deref_mut.ensures.value c.make_room.ensures.err (with_items_is c.self.inside.lanes c.make_room.new.lanes many)
