use Rattle.std.proofs.Common.{ap, ◌∙◌, insert}
use Rattle.proof_basics.proofs.Tests.{clash}
use Rattle.local_ids.proofs.RisingLaws.{seen_at, told_at, there_with, new_with, place_is}
use Rattle.local_ids.proofs.rising.put_local.Goals as goal

pub returns-then-stands_at-clause-ok : goal.returns-then-stands_at-clause-ok
returns-then-stands_at-clause-ok c =
    let xs = c.args.list.now.items in
    let x = c.args.local in
    there_with x xs c.requires (seen_at x xs _ _ _ c.deref.ensures.value c.deref-2.ensures.value c.place_of-at.ensures.value (c.stands_at.ensures.0 c.if-stands_at.true))

pub returns-clause-ok : goal.returns-clause-ok
returns-clause-ok c =
    let xs = c.args.list.now.items in
    let x = c.args.local in
    c.in_ok-insert.ensures.items
    ∙ ap (λ n. insert xs n x) (place_is x xs _ _ c.deref.ensures.value c.place_of-at.ensures.value)
    ∙ new_with x xs c.requires (λ h. clash (c.stands_at.ensures.1 (told_at x xs _ _ _ c.deref.ensures.value c.deref-2.ensures.value c.place_of-at.ensures.value h)) c.if-stands_at.false)
