use Rattle.node_sets.proofs.Bits.{within_from_none, none_from_within, is_zero, zero_is}
use Rattle.node_sets.proofs.node_set.is_within.Goals as goal

pub returns : goal.returns
returns c =
    let left = c.without_bits.ensures in
    (λ none. within_from_none _ _ _ left.members (is_zero _ none), λ within. zero_is _ (none_from_within _ _ _ left.small left.members within))
