use Rattle.std.proofs.Common.{◌∙◌, ap, subst, ◌≤◌, sym}
use Rattle.std.specs.Prelude.{count_ones}
use Rattle.node_sets.proofs.Bits.{ones_below, size_below_most}
use Rattle.node_sets.proofs.node_set.NodeSet.len_below.Goals as goal

pub returns-clause-value : goal.returns-clause-value
returns-clause-value c =
    rw (← c.self.view_is) (ap count_ones c.low_bits.ensures ∙ ones_below c.self.inside.bits c.args.end c.requires)

pub returns-clause-most : goal.returns-clause-most
returns-clause-most c =
    subst (λ n. n ≤ c.args.end) (sym (ap count_ones c.low_bits.ensures ∙ ones_below c.self.inside.bits c.args.end c.requires)) (size_below_most c.self.inside.bits c.args.end)
