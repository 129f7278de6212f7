use Rattle.std.proofs.Common.{◌≡◌, length, arith}
use Rattle.lane_views.proofs.SoundLaws.{sound-made, written-over}
use Rattle.lane_views.proofs.view.LaneView.change.Goals as goal

pub invariant_of-self-2 : goal.invariant_of-self-2
invariant_of-self-2 c =
    let many : c.self.inside.nodes.len ≡ length c.change_nodes.new.nodes = omega (arith, c.self.inside.nodes.ok, c.change_nodes.auto.nodes) in
    sound-made c.self.inside.schema c.self.inside.nodes.items _ c.change_nodes.new.nodes _ c.self.inside.generation c.saturating_add-self-inside.result c.args.change.now
    c.self.invariant c.deref_mut.ensures.value (written-over _ c.change_nodes.new.nodes _ many) c.in_ok-change_nodes.ensures.bucket c.in_ok-change_nodes.ensures.ok c.in_ok-change_nodes.ensures.typed c.saturating_add-self-inside.ensures
