use Rattle.std.proofs.Common.{◌≡◌, false, rules}
use Rattle.service_layer.specs.Placing.{is_ready_inside}
use Rattle.service_layer.proofs.Placed.{store_join}
use Rattle.service_layer.proofs.node_store.NodeStore.join.Goals as goal

pub invariant_of-self : goal.invariant_of-self
invariant_of-self c =
    let h = c.self.inside.pieces in
    let none : is_ready_inside c.args.bucket h.pieces ≡ false = search rules in
    store_join c.self.inside.parts c.args.bucket h c.join.new.self c.join.result c.join.ensures.ok c.join.ensures.err c.join.ensures.keys none c.self.invariant
