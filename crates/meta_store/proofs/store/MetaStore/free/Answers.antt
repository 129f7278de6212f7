use Rattle.std.proofs.Common.{◌≡◌, sym, ap, subst, ◌∙◌}
use Rattle.std.specs.Option.{option_copied}
use Rattle.std.specs.FinMap as fin
use Rattle.local_ids.specs.Rising.{IsRising}
use Rattle.local_ids.proofs.KeyLaws.{keys_rise}
use Rattle.meta_store.specs.Store.{IsStored}
use Rattle.meta_store.proofs.StoreLaws.{freed, none_freed}
use Rattle.meta_store.proofs.store.MetaStore.free.Goals as goal

pub returns-in_default : goal.returns-in_default
returns-in_default c = subst (λ m. m ≡ fin.remove m c.args.local) c.self.view_is
    (none_freed c.self.inside.named c.args.local (sym c.get.ensures ∙ ap option_copied c.in_default.is))

pub drop_local-requires : goal.drop_local-requires
drop_local-requires c = subst IsRising (sym c.self.invariant.taken) (keys_rise c.self.inside.named)

pub invariant_of-self : goal.invariant_of-self
invariant_of-self c =
    subst (λ m. IsStored m c.drop_local.new.list.items c.drop_id.new.by_id) (sym c.clear.ensures)
    (freed c.self.inside.named c.self.inside.locals.items c.drop_local.new.list.items c.self.inside.by_id c.drop_id.new.by_id c.args.local c.in-Some.document.now c.self.invariant (sym c.in-Some.ensures) c.drop_local.ensures c.drop_id.ensures)
