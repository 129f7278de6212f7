use Rattle.field_indexes.proofs.KeptLaws.{words_new}
use Rattle.field_indexes.proofs.field_index.FieldIndex.new.Goals as goal

pub invariant_of-result : goal.invariant_of-result
invariant_of-result c = rw (c.new.ensures, c.new-2.ensures, c.new-3.ensures) words_new
