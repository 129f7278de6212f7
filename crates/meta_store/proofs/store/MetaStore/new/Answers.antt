use Rattle.meta_store.proofs.StoreLaws.{nothing_stored}
use Rattle.meta_store.proofs.store.MetaStore.new.Goals as goal

pub invariant_of-result : goal.invariant_of-result
invariant_of-result c = rw (c.new.ensures, c.new-2.ensures.items) (nothing_stored c.new-3.result c.new-3.ensures.empty)
