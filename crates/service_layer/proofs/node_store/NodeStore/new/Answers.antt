use Rattle.service_layer.proofs.Placed.{store_new}
use Rattle.service_layer.proofs.node_store.NodeStore.new.Goals as goal

pub invariant_of-result : goal.invariant_of-result
invariant_of-result c = store_new c.args.schema.now _ _ c.in_ok-new.ensures c.new-2.ensures
