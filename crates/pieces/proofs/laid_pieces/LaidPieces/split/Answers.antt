use Rattle.std.proofs.Common.{◌≡◌, ◌∙◌, ◌+◌, ap, false}
use Rattle.pieces.specs.declared.piece.Piece.{Piece}
use Rattle.pieces.specs.Pieces.{holds, split_at}
use Rattle.pieces.proofs.Laid.{IsLaid-split}
use Rattle.pieces.proofs.Serials.{AreUpTo-split}
use Rattle.pieces.proofs.KeyLaws.{holds-split}
use Rattle.pieces.proofs.ToldLaws.{told-over}
use Rattle.pieces.proofs.laid_pieces.LaidPieces.split.Goals as goal

pub returns-in_default-split_pieces-clause-told : goal.returns-in_default-split_pieces-clause-told
returns-in_default-split_pieces-clause-told c =
    let d : Piece = record { bucket = c.args.bucket; serial = 0; ready = false } in
    let some = rw c.deref.ensures.value at c.in-Some.ensures.some in
    rw (← c.self.view_is) (told-over c.args.bucket c.self.inside.pieces.items c.in-Some.at d some)

pub invariant_of-self-2 : goal.invariant_of-self-2
invariant_of-self-2 c =
    let same : c.split_pieces.new.pieces.items ≡ split_at c.args.bucket (c.self.inside.serial + 1) c.self.inside.pieces.items = c.in-Ok.ensures.ok in
    record { laid = rw same (IsLaid-split c.runs_are_known.ensures c.args.bucket c.place_over.ensures.valid _ 0 _ c.self.invariant.laid); up_to = rw same (AreUpTo-split c.args.bucket _ _ c.self.invariant.up_to) }

pub returns-clause-told : goal.returns-clause-told
returns-clause-told c =
    let d : Piece = record { bucket = c.args.bucket; serial = 0; ready = false } in
    let some = rw c.deref.ensures.value at c.in-Some.ensures.some in
    rw (← c.self.view_is) (told-over c.args.bucket c.self.inside.pieces.items c.in-Some.at d some)

pub returns-clause-keys : goal.returns-clause-keys
returns-clause-keys c = λ key small.
    let same : c.split_pieces.new.pieces.items ≡ split_at c.args.bucket (c.self.inside.serial + 1) c.self.inside.pieces.items = c.in-Ok.ensures.ok in
    rw (← c.self.view_is) (ap (holds key) same ∙ holds-split c.runs_are_known.ensures key small c.args.bucket c.place_over.ensures.valid _ 0 _ c.self.invariant.laid)
