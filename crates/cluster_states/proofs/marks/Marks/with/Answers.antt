use Rattle.std.proofs.Common.{◌∙◌, sym, ap, cond, ◌==◌, arith}
use Rattle.node_sets.specs.Members.{has_node}
use Rattle.cluster_states.specs.MarkWords.{same_count}
use Rattle.cluster_states.proofs.MarkSets.{set_listed, set_past}
use Rattle.cluster_states.proofs.marks.Marks.with.Goals as goal

pub returns-then-number-self : goal.returns-then-number-self
returns-then-number-self c =
    rw (← c.self.view_is) (sym (set_past _ c.args.number c.args.mark (omega (arith, c.if-number-self.true, same_count c.self.inside.up c.self.inside.retired c.self.inside.count))))

pub returns : goal.returns
returns c = rw (← c.self.view_is) (
    set_listed c.self.inside.up c.self.inside.retired c.put.result c.put-2.result c.self.inside.count c.args.number c.args.mark (omega (arith, c.if-number-self.false))
    (λ n. c.put.ensures n ∙ ap (λ t. cond (n == c.args.number) t (has_node c.self.inside.up n)) c.is_up.ensures)
    (λ n. c.put-2.ensures n ∙ ap (λ t. cond (n == c.args.number) t (has_node c.self.inside.retired n)) c.is_retired.ensures))
