use Rattle.word_index.proofs.IndexLaws.{empty_keeps}
use Rattle.word_index.proofs.index.WordIndex.new.Goals as goal

pub invariant_of-result : goal.invariant_of-result
invariant_of-result c = rw c.new.ensures.empty empty_keeps
