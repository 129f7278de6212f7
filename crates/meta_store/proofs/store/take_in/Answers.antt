use Rattle.std.proofs.Common.{◌≡◌, sym, ap, subst, ◌∙◌, length, arith, None}
use Rattle.std.specs.List.{Contains}
use Rattle.std.specs.FinMap as fin
use Rattle.local_ids.specs.Rising.{IsRising}
use Rattle.local_ids.proofs.KeyLaws.{keys_rise}
use Rattle.meta_store.specs.Store.{Store, IsStored}
use Rattle.meta_store.proofs.StoreLaws.{assigned, put_back, same_stored, none_taken, is_taken, many, unknown}
use Rattle.meta_store.proofs.store.take_in.Goals as goal

pub least_free-local-requires-clause-rising : goal.least_free-local-requires-clause-rising
least_free-local-requires-clause-rising c = subst IsRising (sym (c.deref.ensures.value ∙ c.requires.stored.taken)) (keys_rise c.args.named.now)

pub least_free-local-requires-clause-few : goal.least_free-local-requires-clause-few
least_free-local-requires-clause-few c =
    let e : length c.deref.result.now ≡ fin.len c.args.named.now = ap length (c.deref.ensures.value ∙ c.requires.stored.taken) ∙ many c.args.named.now in
    let few = c.requires.few in
    omega (arith, e, few)

pub place_in-requires-clause-free : goal.place_in-requires-clause-free
place_in-requires-clause-free c =
    none_taken c.args.named.now c.least_free-local.result (λ h. c.least_free-local.ensures.free (subst (λ l. Contains l c.least_free-local.result) (sym (c.deref.ensures.value ∙ c.requires.stored.taken)) h))

pub returns-clause-least : goal.returns-clause-least
returns-clause-least c =
    let s : Store = c.args.named.now in
    let n = c.least_free-local.result in
    let e = c.deref.ensures.value ∙ c.requires.stored.taken in (
      none_taken s n (λ h. c.least_free-local.ensures.free (subst (λ l. Contains l n) (sym e) h)),
      λ k l. is_taken s k (subst (λ l. Contains l k) e (c.least_free-local.ensures.below k l)),
    )
