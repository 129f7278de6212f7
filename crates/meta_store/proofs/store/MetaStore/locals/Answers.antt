use Rattle.std.proofs.Common.{sym, subst, ◌∙◌}
use Rattle.local_ids.specs.Rising.{IsRising}
use Rattle.local_ids.proofs.KeyLaws.{keys_rise}
use Rattle.meta_store.proofs.store.MetaStore.locals.Goals as goal

pub returns-clause-rising : goal.returns-clause-rising
returns-clause-rising c = subst IsRising (sym (c.deref.ensures.value ∙ c.self.invariant.taken)) (keys_rise c.self.inside.named)
