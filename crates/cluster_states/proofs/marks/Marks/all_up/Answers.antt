use Rattle.std.proofs.Common.{◌∙◌, arith}
use Rattle.node_sets.proofs.Bits.{has_none}
use Rattle.cluster_states.proofs.MarkSets.{all_listed, none_past, none_in_both}
use Rattle.cluster_states.proofs.marks.Marks.all_up.Goals as goal

pub invariant_of-result : goal.invariant_of-result
invariant_of-result c = record {
  few = c.requires;
  up_word = omega arith;
  retired_word = omega arith;
  up_below = λ n past. c.all_below.ensures n ∙ none_past c.args.count n past;
  retired_below = λ n past. has_none n;
  apart = λ n. none_in_both _ _ (has_none n);
}

pub returns : goal.returns
returns c = all_listed c.all_below.result c.args.count c.all_below.ensures
