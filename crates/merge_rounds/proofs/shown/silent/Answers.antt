use Rattle.std.proofs.Common.{◌&&◌, not, inl, inr, ap, ◌∙◌, sym}
use Rattle.std.proofs.lemmas.Bool.{cases_lt}
use Rattle.node_sets.specs.Members.{has_node}
use Rattle.merge_rounds.specs.Rounds.{did_show}
use Rattle.merge_rounds.proofs.Members.{no_member_past}
use Rattle.merge_rounds.proofs.shown.silent.Goals as goal

pub returns : goal.returns
returns c n = elim (cases_lt n 32) [
  | inl within ↦ c.difference.ensures n ∙ ap (λ b. has_node c.args.readers n && not b) (c.showers.ensures n within)
  | inr past ↦ no_member_past c.difference.result n past ∙ sym (ap (λ b. b && not (did_show n c.args.shown.now)) (no_member_past c.args.readers n past))
]
