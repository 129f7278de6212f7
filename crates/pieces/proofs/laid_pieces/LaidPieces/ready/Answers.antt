use Rattle.std.proofs.Common.{◌∙◌, ◌+◌, List, ap, false}
use Rattle.pieces.specs.declared.piece.Piece.{Piece}
use Rattle.pieces.specs.Holdings.{Holding}
use Rattle.pieces.proofs.Laid.{IsLaid-ready}
use Rattle.pieces.proofs.Serials.{AreUpTo-ready}
use Rattle.pieces.proofs.PlaceLaws.{ready-at}
use Rattle.pieces.specs.Pieces.{holds}
use Rattle.pieces.proofs.KeyLaws.{holds-ready}
use Rattle.pieces.proofs.laid_pieces.LaidPieces.ready.Goals as goal

pub invariant_of-self : goal.invariant_of-self
invariant_of-self c =
    let d : Piece = record { bucket = c.args.bucket; serial = 0; ready = false } in
    let some = rw c.deref.ensures.value at c.in-Some.ensures.some in
    let same = ready-at c.runs_are_known.ensures c.args.bucket c.in-Some.ensures.valid (c.self.inside.serial + 1) c.self.inside.pieces.items c.self.invariant.laid c.in-Some.at d some.within (some.exact d) in
    record { laid = rw same (IsLaid-ready c.args.bucket _ 0 _ c.self.invariant.laid); up_to = rw same (AreUpTo-ready c.args.bucket _ _ c.self.invariant.up_to) }

pub returns-clause-ok : goal.returns-clause-ok
returns-clause-ok c =
    let d : Piece = record { bucket = c.args.bucket; serial = 0; ready = false } in
    let some = rw c.deref.ensures.value at c.in-Some.ensures.some in
    let whole : List Piece → Holding = λ ps. record { pieces = ps; serial = c.self.inside.serial + 1 } in
    rw (← c.self.view_is) (ap whole (ready-at c.runs_are_known.ensures c.args.bucket c.in-Some.ensures.valid (c.self.inside.serial + 1) c.self.inside.pieces.items c.self.invariant.laid c.in-Some.at d some.within (some.exact d)))

pub returns-clause-keys : goal.returns-clause-keys
returns-clause-keys c = λ key.
    let d : Piece = record { bucket = c.args.bucket; serial = 0; ready = false } in
    let some = rw c.deref.ensures.value at c.in-Some.ensures.some in
    let same = ready-at c.runs_are_known.ensures c.args.bucket c.in-Some.ensures.valid (c.self.inside.serial + 1) c.self.inside.pieces.items c.self.invariant.laid c.in-Some.at d some.within (some.exact d) in
    rw (← c.self.view_is) (ap (holds key) same ∙ holds-ready key c.args.bucket (c.self.inside.serial + 1) c.self.inside.pieces.items)
