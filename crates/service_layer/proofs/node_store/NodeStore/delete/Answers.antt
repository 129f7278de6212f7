use Rattle.service_layer.proofs.Placed.{store_dropped}
use Rattle.service_layer.proofs.node_store.NodeStore.delete.Goals as goal

pub invariant_of-self-2 : goal.invariant_of-self-2
invariant_of-self-2 c =
    store_dropped c.self.inside.parts c.drop_bucket.new.self c.args.bucket c.self.inside.pieces c.delete.new.self c.in_ok-delete.ensures.ok c.in_ok-delete.ensures.keys
    c.drop_bucket.ensures.left c.drop_bucket.ensures.places c.self.invariant
