use Rattle.meta_store.proofs.store.MetaStore.assign.Goals as goal

pub returns-in-Some-clause-least : goal.returns-in-Some-clause-least
returns-in-Some-clause-least c = λ new. absurd (new c.in-Some.local ((c.local.ensures c.in-Some.local).0 c.in-Some.is))

pub returns-in-Some-clause-ok : goal.returns-in-Some-clause-ok
returns-in-Some-clause-ok c = λ new. absurd (new c.in-Some.local ((c.local.ensures c.in-Some.local).0 c.in-Some.is))
