use Rattle.std.proofs.Common.{◌≡◌, ◌∙◌, ◌+◌, ap, arith, false}
use Rattle.pieces.specs.declared.piece.Piece.{Piece}
use Rattle.pieces.specs.Pieces.{holds, join_at}
use Rattle.pieces.specs.Told.{where_some}
use Rattle.pieces.proofs.Laid.{IsLaid-join}
use Rattle.pieces.proofs.Serials.{AreUpTo-join}
use Rattle.pieces.proofs.KeyLaws.{holds-join}
use Rattle.pieces.proofs.ToldLaws.{told-inside}
use Rattle.pieces.proofs.laid_pieces.LaidPieces.join.Goals as goal

pub returns-in_default-join_pieces-clause-told : goal.returns-in_default-join_pieces-clause-told
returns-in_default-join_pieces-clause-told c =
    let d : Piece = record { bucket = c.args.bucket; serial = 0; ready = false } in
    let some = rw c.deref.ensures.value at c.in-Some.ensures.some in
    rw (← c.self.view_is) (ap where_some (told-inside c.args.bucket c.self.inside.pieces.items c.in-Some.from c.in-Some.to d some))

pub invariant_of-self-2 : goal.invariant_of-self-2
invariant_of-self-2 c =
    let same : c.join_pieces.new.pieces.items ≡ join_at c.args.bucket (c.self.inside.serial + 1) c.self.inside.pieces.items = c.in-Ok.ensures.ok in
    record { laid = rw same (IsLaid-join c.runs_are_known.ensures c.args.bucket c.run_inside.ensures.valid _ 0 (omega arith) _ c.self.invariant.laid); up_to = rw same (AreUpTo-join c.args.bucket _ _ c.self.invariant.up_to) }

pub returns-clause-told : goal.returns-clause-told
returns-clause-told c =
    let d : Piece = record { bucket = c.args.bucket; serial = 0; ready = false } in
    let some = rw c.deref.ensures.value at c.in-Some.ensures.some in
    rw (← c.self.view_is) (ap where_some (told-inside c.args.bucket c.self.inside.pieces.items c.in-Some.from c.in-Some.to d some))

pub returns-clause-keys : goal.returns-clause-keys
returns-clause-keys c = λ key small.
    let d : Piece = record { bucket = c.args.bucket; serial = 0; ready = false } in
    let some = rw c.deref.ensures.value at c.in-Some.ensures.some in
    let same : c.join_pieces.new.pieces.items ≡ join_at c.args.bucket (c.self.inside.serial + 1) c.self.inside.pieces.items = c.in-Ok.ensures.ok in
    let inside = told-inside c.args.bucket c.self.inside.pieces.items c.in-Some.from c.in-Some.to d some in
    rw (← c.self.view_is) (ap (holds key) same ∙ holds-join c.runs_are_known.ensures key small c.args.bucket c.run_inside.ensures.valid _ 0 _ c.self.invariant.laid inside)
