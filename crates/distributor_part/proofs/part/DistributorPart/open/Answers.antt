use Rattle.std.proofs.Common.{ap, ◌∙◌}
use Rattle.distributor_part.proofs.PartLaws.{part_opened}
use Rattle.distributor_part.proofs.part.DistributorPart.open.Goals as goal

pub invariant_of-self : goal.invariant_of-self
invariant_of-self c = c.self.invariant

pub invariant_of-self-2 : goal.invariant_of-self-2
invariant_of-self-2 c = part_opened _ _ _ _ _ _ c.self.invariant (ap (λ p. p.stage) c.self.view_is ∙ c.requires.no_round) (ap (λ p. p.awaited) c.self.view_is ∙ c.requires.told)
    c.in_ok-rows.ensures.lane c.in_ok-rows.ensures.unmarked
