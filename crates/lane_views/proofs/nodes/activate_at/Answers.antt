use Rattle.std.proofs.Common.{sym, ap, ◌∙◌, ℕ, arith}
use Rattle.view_changes.specs.Views.{activated, node_at, is_barred}
use Rattle.lane_views.specs.Typed.{nodes_of}
use Rattle.lane_views.proofs.StepLaws.{past-unless, sound-at, set-made, unless-free}
use Rattle.lane_views.proofs.nodes.activate_at.Goals as goal

pub returns-then-at-nodes-clause-ok : goal.returns-then-at-nodes-clause-ok
returns-then-at-nodes-clause-ok c = past-unless _ c.args.node _ c.args.nodes.now (omega arith)

pub activate-requires : goal.activate-requires
activate-requires c = sound-at c.from-at.result c.args.nodes.now c.index-nodes-at.result (omega arith) c.requires

pub returns-clause-ok : goal.returns-clause-ok
returns-clause-ok c =
    unless-free _ c.args.node _ c.args.nodes.now _
    (ap (λ (k : ℕ). is_barred k (node_at k (nodes_of c.args.nodes.now)).version c.args.bucket (nodes_of c.args.nodes.now)) (sym c.from-at.ensures) ∙ sym c.is_barred.ensures ∙ c.if-is_barred.false)
    (set-made c.args.node c.from-at.result (λ types. activated types c.args.bucket c.args.entries.now) c.args.nodes.now c.index-nodes-at.result _ c.from-at.ensures (omega arith) c.in_ok-activate.ensures.ok)
