use Rattle.std.proofs.Common.{rules, ◌≡◌, ◌∙◌, ap, true, false, cond}
use Rattle.pieces.specs.Told.{Accepted, Differs}
use Rattle.pieces.proofs.ToldLaws.{activate-at, activate-none}
use Rattle.pieces.proofs.laid_pieces.LaidPieces.may_activate.Goals as goal

pub returns-in_default : goal.returns-in_default
returns-in_default c = rw (← c.self.view_is) (activate-none c.args.bucket c.self.inside.pieces.items (rw c.deref.ensures.value at c.in_default.ensures.none))

pub returns-then-index : goal.returns-then-index
returns-then-index c =
    let some = rw c.deref.ensures.value at c.in-Some.ensures.some in
    let x = c.index.result.now in
    let on : x.ready ≡ true = search rules in
    rw (← c.self.view_is) (activate-at c.args.bucket c.self.inside.pieces.items c.in-Some.at x some c.index.ensures ∙ ap (λ t. cond t Accepted Differs) on)

pub returns-else-index : goal.returns-else-index
returns-else-index c =
    let some = rw c.deref.ensures.value at c.in-Some.ensures.some in
    let x = c.index.result.now in
    let off : x.ready ≡ false = search rules in
    rw (← c.self.view_is) (activate-at c.args.bucket c.self.inside.pieces.items c.in-Some.at x some c.index.ensures ∙ ap (λ t. cond t Accepted Differs) off)
