use Rattle.service_layer.proofs.Placed.{store_applied}
use Rattle.service_layer.proofs.node_store.NodeStore.apply_to_piece.Goals as goal

pub invariant_of-self-2 : goal.invariant_of-self-2
invariant_of-self-2 c =
    store_applied c.runs_are_known.ensures c.self.inside.parts c.apply_parts.new.parts c.args.bucket c.args.entries.now c.bits.ensures.valid c.self.inside.pieces c.renew_piece.new.self c.items.ensures.valid.laid
    c.renew_piece.ensures.made c.requires.inside c.in-Ok.ensures.ok c.self.invariant
