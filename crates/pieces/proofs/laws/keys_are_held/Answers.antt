use Rattle.std.proofs.Common.{◌+◌}
use Rattle.pieces.specs.Pieces.{has_key_of, does_meet}
use Rattle.pieces.proofs.KeyLaws.{holds-renewed, holds-ready, holds-apply, holds-split, holds-join, holds-delete}
use Rattle.pieces.proofs.laws.keys_are_held.Goals as goal

pub returns : goal.returns
returns c = record {
  store = λ key h other. holds-renewed other (has_key_of key) (h.serial + 1) h.pieces;
  apply = λ b h key vb ok small. holds-apply c.runs_are_known.ensures key small b vb (h.serial + 1) h.pieces ok.laid;
  split = λ b h key vb ok small. holds-split c.runs_are_known.ensures key small b vb (h.serial + 1) 0 h.pieces ok.laid;
  join = λ b h key vb ok small there. holds-join c.runs_are_known.ensures key small b vb (h.serial + 1) 0 h.pieces ok.laid there;
  ready = λ b h key. holds-ready key b (h.serial + 1) h.pieces;
  activate = λ b h key. holds-renewed key (does_meet b) (h.serial + 1) h.pieces;
  delete = λ b h key vb ok small there. holds-delete c.runs_are_known.ensures key small b vb 0 h.pieces ok.laid there;
}
