use Rattle.std.proofs.Common.{◌≡◌, sym, ap, subst, ◌∙◌, remove, arith}
use Rattle.proof_basics.proofs.Tests.{clash}
use Rattle.local_ids.specs.Rising.{IsRising, with_local, without_local}
use Rattle.local_ids.proofs.RisingLaws.{seen_at, told_at, there_without, place_is, without_rises, has_at, at_has}
use Rattle.local_ids.proofs.MoveLaws.{moved_there, moved_missing}
use Rattle.local_ids.proofs.rising.move_local.Goals as goal

pub fill_local-requires-clause-rising : goal.fill_local-requires-clause-rising
fill_local-requires-clause-rising c =
    let xs = c.args.list.now.items in
    let x = c.args.from in
    let e : c.remove.new.self.items ≡ without_local x xs =
    c.remove.ensures.items
    ∙ ap (λ n. remove xs n) (place_is x xs _ _ c.deref.ensures.value c.place_of-place.ensures.value)
    ∙ there_without x xs c.requires (seen_at x xs _ _ _ c.deref.ensures.value c.deref-2.ensures.value c.place_of-place.ensures.value (c.stands_at.ensures.0 c.if-stands_at.true)) in
    subst IsRising (sym e) (without_rises x xs c.requires)

pub fill_local-requires-clause-room : goal.fill_local-requires-clause-room
fill_local-requires-clause-room c = omega (arith, c.args.list.now.ok.1, c.remove.ensures.len, c.remove.ensures.capacity)

pub returns-then-stands_at : goal.returns-then-stands_at
returns-then-stands_at c =
    let xs = c.args.list.now.items in
    let x = c.args.from in
    let at = seen_at x xs _ _ _ c.deref.ensures.value c.deref-2.ensures.value c.place_of-place.ensures.value (c.stands_at.ensures.0 c.if-stands_at.true) in
    c.fill_local.ensures
    ∙ ap (with_local c.args.to) (c.remove.ensures.items
    ∙ ap (λ n. remove xs n) (place_is x xs _ _ c.deref.ensures.value c.place_of-place.ensures.value)
    ∙ there_without x xs c.requires at)
    ∙ sym (moved_there x c.args.to xs (has_at x xs at))

pub returns-else-stands_at : goal.returns-else-stands_at
returns-else-stands_at c =
    let xs = c.args.list.now.items in
    let x = c.args.from in
    sym (moved_missing x c.args.to xs (λ h. clash (c.stands_at.ensures.1 (told_at x xs _ _ _ c.deref.ensures.value c.deref-2.ensures.value c.place_of-place.ensures.value (at_has x xs c.requires h))) c.if-stands_at.false))
