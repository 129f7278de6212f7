use Rattle.std.proofs.Common.{◌≡◌, ◌∙◌, ◌&&◌, refl}
use Rattle.node_sets.specs.Members.{has_node}
use Rattle.op_machine.specs.Nodes.{count_nodes}
use Rattle.op_machine.proofs.NodeLaws.{size_of-count}
use Rattle.lane_lines.proofs.opened_lines.shortage_of.Goals as goal

pub returns : goal.returns
returns c =
    let some : c.len.result ≡ count_nodes (λ n. has_node c.args.serving n && has_node c.args.answered n) = c.len.ensures.value ∙ size_of-count _ _ c.intersection.ensures in
    let all : c.len-2.result ≡ count_nodes (has_node c.args.serving) = c.len-2.ensures.value ∙ size_of-count c.args.serving (has_node c.args.serving) (λ n. refl) in
    rw (some, all, c.absent_in.ensures, c.if-short.false) refl
