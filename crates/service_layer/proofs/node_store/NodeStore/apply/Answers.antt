use Rattle.service_layer.proofs.Placed.{store_applied}
use Rattle.service_layer.proofs.node_store.NodeStore.apply.Goals as goal

pub invariant_of-self-2 : goal.invariant_of-self-2
invariant_of-self-2 c =
    store_applied c.runs_are_known.ensures c.self.inside.parts c.apply_parts.new.parts c.args.bucket c.args.entries.now c.bits.ensures.valid c.self.inside.pieces c.in-Ok.pieces c.items.ensures.valid.laid
    c.in-Ok.ensures.made c.requires.inside c.in-Ok-apply_parts.ensures.ok c.self.invariant
