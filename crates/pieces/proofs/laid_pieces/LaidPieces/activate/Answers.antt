use Rattle.std.proofs.Common.{rules, ◌≡◌, ◌∙◌, ◌+◌, List, ap, true, false, cond, set}
use Rattle.pieces.specs.declared.piece.Piece.{Piece}
use Rattle.pieces.specs.Pieces.{does_meet, with_serial, renewed}
use Rattle.pieces.specs.Told.{Accepted, Differs}
use Rattle.pieces.specs.Holdings.{Holding}
use Rattle.pieces.proofs.Laid.{IsLaid-renewed}
use Rattle.pieces.proofs.Serials.{AreUpTo-renewed}
use Rattle.pieces.proofs.PlaceLaws.{renewed-over}
use Rattle.pieces.proofs.ToldLaws.{activate-at, activate-none}
use Rattle.pieces.specs.Pieces.{holds}
use Rattle.pieces.proofs.KeyLaws.{holds-renewed}
use Rattle.pieces.proofs.laid_pieces.LaidPieces.activate.Goals as goal

pub returns-in_default-clause-told : goal.returns-in_default-clause-told
returns-in_default-clause-told c = rw (← c.self.view_is) (activate-none c.args.bucket c.self.inside.pieces.items (rw c.deref.ensures.value at c.in_default.ensures.none))

pub returns-then-not-index-clause-told : goal.returns-then-not-index-clause-told
returns-then-not-index-clause-told c =
    let some = rw c.deref.ensures.value at c.in-Some.ensures.some in
    let x = c.index.result.now in
    let off : x.ready ≡ false = search rules in
    rw (← c.self.view_is) (activate-at c.args.bucket c.self.inside.pieces.items c.in-Some.at x some c.index.ensures ∙ ap (λ t. cond t Accepted Differs) off)

pub invariant_of-self : goal.invariant_of-self
invariant_of-self c =
    let some = rw c.deref.ensures.value at c.in-Some.ensures.some in
    let x = c.index_mut.result.now in
    let same : set c.self.inside.pieces.items c.in-Some.at (with_serial (c.self.inside.serial + 1) x) ≡ renewed (does_meet c.args.bucket) (c.self.inside.serial + 1) c.self.inside.pieces.items
    = renewed-over c.runs_are_known.ensures c.args.bucket c.in-Some.ensures.valid (c.self.inside.serial + 1) c.self.inside.pieces.items c.self.invariant.laid c.in-Some.at x some c.index_mut.ensures.value in
    record { laid = rw same (IsLaid-renewed (does_meet c.args.bucket) _ 0 _ c.self.invariant.laid); up_to = rw same (AreUpTo-renewed (does_meet c.args.bucket) _ _ c.self.invariant.up_to) }

pub returns-clause-ok : goal.returns-clause-ok
returns-clause-ok c =
    let some = rw c.deref.ensures.value at c.in-Some.ensures.some in
    let x = c.index_mut.result.now in
    let whole : List Piece → Holding = λ ps. record { pieces = ps; serial = c.self.inside.serial + 1 } in
    rw (← c.self.view_is) (ap whole (renewed-over c.runs_are_known.ensures c.args.bucket c.in-Some.ensures.valid (c.self.inside.serial + 1) c.self.inside.pieces.items c.self.invariant.laid c.in-Some.at x some c.index_mut.ensures.value))

pub returns-clause-told : goal.returns-clause-told
returns-clause-told c =
    let some = rw c.deref.ensures.value at c.in-Some.ensures.some in
    let x = c.index.result.now in
    let on : x.ready ≡ true = search rules in
    rw (← c.self.view_is) (activate-at c.args.bucket c.self.inside.pieces.items c.in-Some.at x some c.index.ensures ∙ ap (λ t. cond t Accepted Differs) on)

pub returns-clause-keys : goal.returns-clause-keys
returns-clause-keys c = λ key.
    let some = rw c.deref.ensures.value at c.in-Some.ensures.some in
    let x = c.index_mut.result.now in
    let same : set c.self.inside.pieces.items c.in-Some.at (with_serial (c.self.inside.serial + 1) x) ≡ renewed (does_meet c.args.bucket) (c.self.inside.serial + 1) c.self.inside.pieces.items
    = renewed-over c.runs_are_known.ensures c.args.bucket c.in-Some.ensures.valid (c.self.inside.serial + 1) c.self.inside.pieces.items c.self.invariant.laid c.in-Some.at x some c.index_mut.ensures.value in
    rw (← c.self.view_is) (ap (holds key) same ∙ holds-renewed key (does_meet c.args.bucket) (c.self.inside.serial + 1) c.self.inside.pieces.items)
