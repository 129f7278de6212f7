use Rattle.std.proofs.Common.{◌≡◌, sym, ap, subst, ◌∙◌, length, arith, None}
use Rattle.std.specs.List.{Contains}
use Rattle.std.specs.FinMap as fin
use Rattle.local_ids.specs.Rising.{IsRising}
use Rattle.local_ids.proofs.KeyLaws.{keys_rise}
use Rattle.meta_store.specs.Store.{Store, IsStored}
use Rattle.meta_store.proofs.StoreLaws.{assigned, put_back, same_stored, none_taken, is_taken, many, unknown}
use Rattle.meta_store.proofs.store.place_in.Goals as goal

pub enter-requires-clause-rising : goal.enter-requires-clause-rising
enter-requires-clause-rising c = subst IsRising (sym c.requires.stored.taken) (keys_rise c.args.named.now)

pub enter-requires-clause-new : goal.enter-requires-clause-new
enter-requires-clause-new c = unknown c.args.named.now c.args.by_id.now c.args.locals.now.items c.requires.stored c.args.id.now c.requires.new

pub returns-in-Ok-clause-stored : goal.returns-in-Ok-clause-stored
returns-in-Ok-clause-stored c =
    let s : Store = c.args.named.now in
    let n = c.args.local in
    subst (λ m. IsStored m c.enter.new.locals.items c.enter.new.by_id)
    (sym (c.in_ok-set.ensures.ok ∙ ap (λ i. fin.insert s n (record { id = i; key = c.args.key })) c.in_ok-copy.ensures))
    (assigned s c.args.locals.now.items c.enter.new.locals.items c.args.by_id.now c.enter.new.by_id n (record { id = c.args.id.now; key = c.args.key }) c.requires.stored
    (unknown s c.args.by_id.now c.args.locals.now.items c.requires.stored c.args.id.now c.requires.new) c.requires.free c.in-Ok.ensures.taken c.in-Ok.ensures.found)

pub returns-in-Err-clause-stored : goal.returns-in-Err-clause-stored
returns-in-Err-clause-stored c =
    let s : Store = c.args.named.now in
    let n = c.args.local in
    subst (λ m. IsStored m c.enter.new.locals.items c.enter.new.by_id)
    (sym (c.clear.ensures ∙ ap (λ m. fin.remove m n) c.in_ok-set.ensures.ok ∙ put_back s n _ c.requires.free))
    (same_stored s c.args.locals.now.items c.enter.new.locals.items c.args.by_id.now c.enter.new.by_id c.requires.stored c.in-Err.ensures.taken_before c.in-Err.ensures.found_before)

pub returns-in-Err-clause-err : goal.returns-in-Err-clause-err
returns-in-Err-clause-err c =
    let s : Store = c.args.named.now in
    let n = c.args.local in
    c.clear.ensures ∙ ap (λ m. fin.remove m n) c.in_ok-set.ensures.ok ∙ put_back s n _ c.requires.free
