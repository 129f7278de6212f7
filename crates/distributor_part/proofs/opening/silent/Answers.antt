use Rattle.std.proofs.Common.{◌&&◌, not, inl, inr, ap, ◌∙◌, sym}
use Rattle.std.proofs.lemmas.Bool.{cases_lt}
use Rattle.node_sets.specs.Members.{has_node}
use Rattle.distributor_part.specs.Steps.{did_show}
use Rattle.distributor_part.proofs.PartLaws.{no_member_past}
use Rattle.distributor_part.proofs.opening.silent.Goals as goal

pub returns : goal.returns
returns c n = elim (cases_lt n 32) [
  | inl within ↦ c.difference.ensures n ∙ ap (λ b. has_node c.args.serving n && not b) (c.shown_by.ensures n within)
  | inr past ↦ no_member_past c.difference.result n past
      ∙ sym (ap (λ b. b && not (did_show c.args.shown.now n)) (no_member_past c.args.serving n past))
]
