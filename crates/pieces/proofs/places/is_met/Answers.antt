use Rattle.std.proofs.Common.{sym, false}
use Rattle.pieces.specs.declared.piece.Piece.{Piece}
use Rattle.pieces.specs.Pieces.{does_meet}
use Rattle.pieces.proofs.PieceLaws.{any_found}
use Rattle.pieces.proofs.places.is_met.Goals as goal

pub returns-in-Some-clause-met : goal.returns-in-Some-clause-met
returns-in-Some-clause-met c =
    let d : Piece = record { bucket = c.args.bucket; serial = 0; ready = false } in
    let met = c.in-Some.ensures.some in
    sym (any_found (does_meet c.args.bucket) c.args.pieces.now _ d met.within (met.met d))
