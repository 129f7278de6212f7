use Rattle.std.proofs.Common.{◌+◌, arith}
use Rattle.bucket_ids.specs.Buckets.{has_key}
use Rattle.pieces.proofs.KeptLaws.{kept-renewed, kept-apply, kept-split, kept-join, kept-made_ready, kept-activate, kept-delete}
use Rattle.pieces.proofs.laws.what_is_not_met_stays.Goals as goal

pub returns : goal.returns
returns c = record {
  store = λ key h b s le out. kept-renewed b s (h.serial + 1) (omega (arith, le)) (λ x. has_key x key) out h.pieces;
  apply = λ c h b s le out. kept-apply b c s (h.serial + 1) (omega (arith, le)) out h.pieces;
  split = λ c h b s le out. kept-split b c s (h.serial + 1) (omega (arith, le)) out h.pieces;
  join = λ c h b s le out. kept-join b c s (h.serial + 1) (omega (arith, le)) out h.pieces;
  ready = λ c h b s vc le out. kept-made_ready b c s (h.serial + 1) (omega (arith, le)) out vc h.pieces;
  activate = λ c h b s le out. kept-activate b c s (h.serial + 1) (omega (arith, le)) out h.pieces;
  delete = λ c h b s vc le out. kept-delete b c s (h.serial + 1) (omega (arith, le)) out vc h.pieces;
}
