use Rattle.std.proofs.Common.{refl}
use Rattle.local_ids.proofs.RisingLaws.{seen_at, told_at, has_at, at_has}
use Rattle.local_ids.proofs.rising.has_local.Goals as goal

pub returns : goal.returns
returns c =
    let xs = c.args.list.now in
    let x = c.args.local in (
      λ h. has_at x xs (seen_at x xs xs xs _ refl refl c.place_of.ensures.value (c.stands_at.ensures.0 h)),
      λ h. c.stands_at.ensures.1 (told_at x xs xs xs _ refl refl c.place_of.ensures.value (at_has x xs c.requires h)),
    )
