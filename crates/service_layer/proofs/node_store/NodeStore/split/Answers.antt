use Rattle.pieces.specs.Holdings.{after_split}
use Rattle.service_layer.proofs.Placed.{store_either, store_split}
use Rattle.service_layer.proofs.node_store.NodeStore.split.Goals as goal

pub invariant_of-self : goal.invariant_of-self
invariant_of-self c =
    let p = c.self.inside.parts in
    let h = c.self.inside.pieces in
    store_either p h c.split.new.self (after_split c.args.bucket h) c.split.result c.split.ensures.ok c.split.ensures.err c.self.invariant
    (λ _. store_split c.runs_are_known.ensures p c.args.bucket c.bits.ensures.valid _ h.pieces c.items.ensures.valid.laid c.self.invariant)
