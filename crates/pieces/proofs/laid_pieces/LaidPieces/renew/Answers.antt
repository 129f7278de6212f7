use Rattle.std.proofs.Common.{◌+◌}
use Rattle.pieces.specs.Pieces.{has_key_of}
use Rattle.pieces.proofs.Laid.{IsLaid-renewed}
use Rattle.pieces.proofs.Serials.{AreUpTo-renewed}
use Rattle.std.proofs.Common.{◌∙◌, ap}
use Rattle.pieces.specs.Pieces.{holds}
use Rattle.pieces.proofs.KeyLaws.{holds-renewed}
use Rattle.pieces.proofs.laid_pieces.LaidPieces.renew.Goals as goal

pub invariant_of-self : goal.invariant_of-self
invariant_of-self c = record {
  laid = rw c.renew_key.ensures (IsLaid-renewed (has_key_of c.args.key) (c.self.inside.serial + 1) 0 _ c.self.invariant.laid);
  up_to = rw c.renew_key.ensures (AreUpTo-renewed (has_key_of c.args.key) _ _ c.self.invariant.up_to);
}

pub returns-clause-keys : goal.returns-clause-keys
returns-clause-keys c = λ other. rw (← c.self.view_is) (ap (holds other) c.renew_key.ensures ∙ holds-renewed other (has_key_of c.args.key) (c.self.inside.serial + 1) c.self.inside.pieces.items)
