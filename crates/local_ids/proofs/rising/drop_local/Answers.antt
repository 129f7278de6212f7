use Rattle.std.proofs.Common.{ap, ◌∙◌, remove}
use Rattle.proof_basics.proofs.Tests.{clash}
use Rattle.local_ids.proofs.RisingLaws.{seen_at, told_at, there_without, new_without, place_is}
use Rattle.local_ids.proofs.rising.drop_local.Goals as goal

pub returns-then-stands_at : goal.returns-then-stands_at
returns-then-stands_at c =
    let xs = c.args.list.now.items in
    let x = c.args.local in
    c.remove.ensures.items
    ∙ ap (λ n. remove xs n) (place_is x xs _ _ c.deref.ensures.value c.place_of-at.ensures.value)
    ∙ there_without x xs c.requires (seen_at x xs _ _ _ c.deref.ensures.value c.deref-2.ensures.value c.place_of-at.ensures.value (c.stands_at.ensures.0 c.if-stands_at.true))

pub returns-else-stands_at : goal.returns-else-stands_at
returns-else-stands_at c =
    let xs = c.args.list.now.items in
    let x = c.args.local in
    new_without x xs c.requires (λ h. clash (c.stands_at.ensures.1 (told_at x xs _ _ _ c.deref.ensures.value c.deref-2.ensures.value c.place_of-at.ensures.value h)) c.if-stands_at.false)
