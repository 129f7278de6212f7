use Rattle.std.proofs.Common.{◌≡◌, ◌∙◌, ◌+◌, ap}
use Rattle.pieces.specs.Pieces.{holds, apply_at}
use Rattle.pieces.proofs.ApplyLaws.{IsLaid-apply, AreUpTo-apply}
use Rattle.pieces.proofs.KeyLaws.{holds-apply}
use Rattle.pieces.proofs.laid_pieces.LaidPieces.made.Goals as goal

pub invariant_of-result : goal.invariant_of-result
invariant_of-result c =
    let same : c.make_piece.new.pieces.items ≡ apply_at c.args.bucket (c.self.inside.serial + 1) c.self.inside.pieces.items = c.in_ok-make_piece.ensures.ok ∙ ap (apply_at c.args.bucket (c.self.inside.serial + 1)) (c.in_ok-pieces.ensures ∙ c.deref.ensures.value) in
    record { laid = rw same (IsLaid-apply c.runs_are_known.ensures c.args.bucket c.make_piece.ensures.valid _ _ c.self.invariant.laid); up_to = rw same (AreUpTo-apply c.args.bucket _ _ c.self.invariant.up_to) }

pub returns-clause-keys : goal.returns-clause-keys
returns-clause-keys c = λ key small.
    let same : c.make_piece.new.pieces.items ≡ apply_at c.args.bucket (c.self.inside.serial + 1) c.self.inside.pieces.items = c.in_ok-make_piece.ensures.ok ∙ ap (apply_at c.args.bucket (c.self.inside.serial + 1)) (c.in_ok-pieces.ensures ∙ c.deref.ensures.value) in
    rw (← c.self.view_is) (ap (holds key) same ∙ holds-apply c.runs_are_known.ensures key small c.args.bucket c.make_piece.ensures.valid _ _ c.self.invariant.laid)
