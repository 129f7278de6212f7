use Rattle.std.proofs.Common.{◌≡◌, List, reverse, sym, ap, ◌∙◌, subst}
use Rattle.messages.specs.Waiting.{AreSentBefore, kept}
use Rattle.messages.specs.Kept.{IsFalling}
use Rattle.messages.specs.declared.late.Late.{Late}
use Rattle.messages.proofs.Falling.{kept-inserted, falling-inserted}
use Rattle.messages.proofs.late_list.LateList.keep.Goals as goal

pub invariant_of-self : goal.invariant_of-self
invariant_of-self c =
    let seen : reverse c.self.inside.items.items ≡ c.args.self.now.late = ap (λ w. w.late) c.self.view_is in
    subst IsFalling (sym c.in-Ok.ensures.items) (falling-inserted _ c.self.inside.items.items _ c.self.invariant
    (subst (AreSentBefore c.args.number) (sym seen) c.requires.newest)
    (rw c.deref.ensures.value at c.place_of-place.ensures.later) (rw c.deref.ensures.value at c.place_of-place.ensures.due))

pub returns : goal.returns
returns c =
    let l : Late = record { due = c.args.due; number = c.args.number; message = c.args.message } in
    let seen : reverse c.self.inside.items.items ≡ c.args.self.now.late = ap (λ w. w.late) c.self.view_is in
    ap (λ (late : List Late). reverse late) c.in-Ok.ensures.items
    ∙ kept-inserted l c.self.inside.items.items _
    (rw c.deref.ensures.value at c.place_of-place.ensures.later) (rw c.deref.ensures.value at c.place_of-place.ensures.due)
    ∙ ap (λ (late : List Late). kept l late) seen
