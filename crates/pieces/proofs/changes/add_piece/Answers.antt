use Rattle.std.proofs.Common.{◌≡◌, ◌∙◌, ◌++◌, ◌∷◌, sym, take, drop, false}
use Rattle.pieces.specs.declared.piece.Piece.{Piece}
use Rattle.pieces.specs.Pieces.{with_piece}
use Rattle.pieces.proofs.PieceLaws.{with_piece-at, apply_at-new}
use Rattle.pieces.proofs.changes.add_piece.Goals as goal

pub returns-clause-ok : goal.returns-clause-ok
returns-clause-ok c =
    let ps = c.args.pieces.now.items in
    let at = c.place_for-at.result in
    let q : Piece = record { bucket = c.args.bucket; serial = c.args.serial; ready = false } in
    let before = rw (c.deref.ensures.value, c.run.ensures.first) at c.place_for-at.ensures.before in
    let behind = rw (c.deref.ensures.value, c.run.ensures.first) at c.place_for-at.ensures.at in
    let placed : with_piece q ps ≡ take at ps ++ q ∷ drop at ps
    = with_piece-at q ps at (rw c.deref.ensures.value at c.place_for-at.ensures.within) before (behind q) in
    c.in_ok-insert.ensures.items ∙ sym placed ∙ sym (apply_at-new c.args.bucket c.args.serial ps c.requires.over c.requires.inside)
