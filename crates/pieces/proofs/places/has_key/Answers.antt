use Rattle.std.proofs.Common.{◌∙◌, sym, false}
use Rattle.pieces.specs.declared.piece.Piece.{Piece}
use Rattle.pieces.specs.Pieces.{is_over}
use Rattle.pieces.specs.Places.{key_bucket}
use Rattle.pieces.proofs.PieceLaws.{any_found}
use Rattle.pieces.proofs.PlaceLaws.{any-key}
use Rattle.pieces.proofs.places.has_key.Goals as goal

pub returns-in-Some : goal.returns-in-Some
returns-in-Some c =
    let d : Piece = record { bucket = key_bucket c.args.key; serial = 0; ready = false } in
    let over = rw c.key_bucket.ensures at c.in-Some.ensures.some in
    sym (any_found (is_over (key_bucket c.args.key)) c.args.pieces.now _ d over.within (over.over d)) ∙ (any-key c.args.key c.requires.small 0 c.args.pieces.now c.requires.laid).1

pub returns-in-None : goal.returns-in-None
returns-in-None c = sym (rw c.key_bucket.ensures at c.in-None.ensures.none) ∙ (any-key c.args.key c.requires.small 0 c.args.pieces.now c.requires.laid).1
