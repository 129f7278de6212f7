use Rattle.std.proofs.Common.{◌≡◌, ap, ◌∙◌, length, rules}
use Rattle.std.specs.FinMap as fin
use Rattle.meta_store.specs.Store.{Store}
use Rattle.meta_store.proofs.StoreLaws.{many}
use Rattle.meta_store.proofs.store.MetaStore.len.Goals as goal

pub returns : goal.returns
returns c =
    let n : c.len.result ≡ length c.self.inside.locals.items = search rules in
    n ∙ ap length c.self.invariant.taken ∙ many c.self.inside.named ∙ ap (λ (s : Store). fin.len s) c.self.view_is
