use Rattle.std.proofs.Common.{◌<◌, false, length, arith}
use Rattle.pieces.specs.declared.piece.Piece.{Piece}
use Rattle.pieces.specs.Pieces.{is_over, is_inside}
use Rattle.pieces.proofs.PieceLaws.{any_found}
use Rattle.pieces.proofs.ApplyLaws.{apply-over, apply-inside}
use Rattle.pieces.proofs.changes.make_piece.Goals as goal

pub returns-in-Some-clause-ok : goal.returns-in-Some-clause-ok
returns-in-Some-clause-ok c =
    let ps = c.args.pieces.now.items in
    let d : Piece = record { bucket = c.args.bucket; serial = 0; ready = false } in
    let some = rw c.deref.ensures.value at c.in-Some.ensures.some in
    rw (← apply-over c.args.bucket c.args.serial ps (any_found (is_over c.args.bucket) ps c.in-Some.at d some.within (some.over d))) c.split_pieces.ensures.ok

pub returns-in-Some-run_inside-clause-ok : goal.returns-in-Some-run_inside-clause-ok
returns-in-Some-run_inside-clause-ok c =
    let ps = c.args.pieces.now.items in
    let d : Piece = record { bucket = c.args.bucket; serial = 0; ready = false } in
    let none = rw c.deref.ensures.value at c.in_default.ensures.none in
    let some = rw c.deref-2.ensures.value at c.in-Some-run_inside.ensures.some in
    let within : c.in-Some-run_inside.from < length ps = (let r = some.rising in let w = some.within in omega (arith, r, w)) in
    rw (← apply-inside c.args.bucket c.args.serial ps none (any_found (is_inside c.args.bucket) ps c.in-Some-run_inside.from d within (some.inside c.in-Some-run_inside.from d (omega arith) some.rising))) c.join_pieces.ensures.ok
