use Rattle.std.proofs.Common.{sym, subst}
use Rattle.lane_views.specs.Typed.{TypedNode}
use Rattle.view_changes.specs.Kept.{AreInside}
use Rattle.lane_views.proofs.FreshLaws.{fresh-made}
use Rattle.lane_views.proofs.node.SeenNode.activate.Goals as goal

pub take_all-requires : goal.take_all-requires
take_all-requires c = record {
  new = fresh-made c.args.bucket c.self.inside.regions.items c.deref-2.result.now c.self.inside.rows.rows c.args.entries.now c.in_ok-fresh.fresh.items c.deref-4.result.now
      c.deref-2.ensures.value
      (subst (λ (t : TypedNode). AreInside (t.node).regions (t.node).rows) (sym c.self.view_is) c.requires.inside)
      c.in_ok-fresh.ensures.list c.in_ok-fresh.ensures.apart c.deref-4.ensures.value;
}
