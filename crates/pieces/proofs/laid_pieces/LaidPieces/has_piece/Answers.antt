use Rattle.std.proofs.Common.{sym, false}
use Rattle.pieces.specs.declared.piece.Piece.{Piece}
use Rattle.pieces.specs.Pieces.{is_exactly}
use Rattle.pieces.proofs.PieceLaws.{any_found}
use Rattle.pieces.proofs.laid_pieces.LaidPieces.has_piece.Goals as goal

pub returns-in-Some : goal.returns-in-Some
returns-in-Some c =
    let d : Piece = record { bucket = c.args.bucket; serial = 0; ready = false } in
    let some = rw c.deref.ensures.value at c.in-Some.ensures.some in
    rw (← c.self.view_is) (sym (any_found (is_exactly c.args.bucket) c.self.inside.pieces.items c.in-Some.field-0 d some.within (some.exact d)))
