use Rattle.std.proofs.Common.{◌∙◌, ◌||◌, sym, ap, ap₂, true, false}
use Rattle.node_sets.specs.Members.{has_node}
use Rattle.cluster_states.specs.MarkTests.{counts}
use Rattle.cluster_states.specs.MarkWords.{listed_at}
use Rattle.cluster_states.proofs.MarkSets.{either_counts, up_alone_counts}
use Rattle.cluster_states.proofs.marks.Marks.set.Goals as goal

pub returns-then-retired : goal.returns-then-retired
returns-then-retired c n = rw (← c.self.view_is, c.if-retired.true) (
    c.union.ensures n
    ∙ ap₂ (λ a b. has_node a n || has_node b n) c.of-up.ensures c.of.ensures
    ∙ either_counts _ _
    ∙ ap (counts true) (sym (listed_at c.self.inside.up c.self.inside.retired c.self.inside.count n c.self.invariant)))

pub returns-else-retired : goal.returns-else-retired
returns-else-retired c n = rw (← c.self.view_is, c.if-retired.false) (
    ap (λ a. has_node a n) c.of-up.ensures
    ∙ up_alone_counts _ _
    ∙ ap (counts false) (sym (listed_at c.self.inside.up c.self.inside.retired c.self.inside.count n c.self.invariant)))
