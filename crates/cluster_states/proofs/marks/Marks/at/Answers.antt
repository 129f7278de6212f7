use Rattle.std.proofs.Common.{◌∙◌, sym, ap, ap₂}
use Rattle.node_sets.specs.Members.{has_node}
use Rattle.cluster_states.specs.MarkWords.{mark_of, listed_at}
use Rattle.cluster_states.proofs.marks.Marks.at.Goals as goal

pub returns : goal.returns
returns c = rw (← c.self.view_is) (
    c.mark_of.ensures
    ∙ ap₂ mark_of (c.has-up.ensures ∙ ap (λ s. has_node s c.args.number) c.of.ensures) (c.has-retired.ensures ∙ ap (λ s. has_node s c.args.number) c.of-2.ensures)
    ∙ sym (listed_at c.self.inside.up c.self.inside.retired c.self.inside.count c.args.number c.self.invariant))
