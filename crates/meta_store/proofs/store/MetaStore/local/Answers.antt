use Rattle.std.proofs.Common.{◌≡◌, ◌↔◌, subst, ap, ◌∙◌, Some}
use Rattle.std.specs.HashMap.{get_by_text}
use Rattle.meta_store.specs.Store.{Has}
use Rattle.meta_store.proofs.StoreLaws.{seen}
use Rattle.meta_store.proofs.store.MetaStore.local.Goals as goal

pub returns : goal.returns
returns c = λ n. subst (λ m. (c.copied.result ≡ Some n) ↔ Has m n c.args.id.now) c.self.view_is
    (seen c.self.inside.named c.self.inside.by_id _ c.self.invariant c.args.id.now c.copied.result
    (c.copied.ensures ∙ c.get.ensures.value ∙ ap (get_by_text c.self.inside.by_id) c.text.ensures.text) n)
