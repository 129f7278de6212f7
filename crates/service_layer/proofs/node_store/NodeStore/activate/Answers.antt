use Rattle.pieces.specs.Pieces.{does_meet}
use Rattle.pieces.specs.Holdings.{after_activate}
use Rattle.service_layer.proofs.Placed.{store_either, store_renewed}
use Rattle.service_layer.proofs.node_store.NodeStore.activate.Goals as goal

pub invariant_of-self : goal.invariant_of-self
invariant_of-self c =
    let p = c.self.inside.parts in
    let h = c.self.inside.pieces in
    store_either p h c.activate.new.self (after_activate c.args.bucket h) c.activate.result c.activate.ensures.ok c.activate.ensures.err c.self.invariant
    (λ _. store_renewed p (does_meet c.args.bucket) _ h.pieces c.self.invariant)
