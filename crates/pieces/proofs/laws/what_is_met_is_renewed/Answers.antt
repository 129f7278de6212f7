use Rattle.std.proofs.Common.{◌+◌}
use Rattle.pieces.proofs.FreshLaws.{fresh-store, fresh-apply, fresh-split, fresh-join, fresh-ready, fresh-renewed}
use Rattle.pieces.proofs.laws.what_is_met_is_renewed.Goals as goal

pub returns : goal.returns
returns c = record {
  store = λ key h. fresh-store (h.serial + 1) key h.pieces;
  apply = λ b h vb ok. fresh-apply c.runs_are_known.ensures b vb (h.serial + 1) h.pieces ok.laid;
  split = λ b h vb ok there. fresh-split c.runs_are_known.ensures b vb (h.serial + 1) 0 h.pieces ok.laid there;
  join = λ b h vb ok there. fresh-join c.runs_are_known.ensures b vb (h.serial + 1) 0 h.pieces ok.laid there;
  ready = λ b h vb ok there. fresh-ready c.runs_are_known.ensures b vb (h.serial + 1) 0 h.pieces ok.laid there;
  activate = λ b h. fresh-renewed (h.serial + 1) b h.pieces;
}
