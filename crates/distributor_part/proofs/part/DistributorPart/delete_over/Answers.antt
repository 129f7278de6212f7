use Rattle.distributor_part.proofs.UpkeepLaws.{part_mapped}
use Rattle.distributor_part.proofs.part.DistributorPart.delete_over.Goals as goal

pub invariant_of-self : goal.invariant_of-self
invariant_of-self c = part_mapped _ _ _ _ _ _ _ c.in-Some.is c.self.invariant c.end_deletes.ensures (λ r s. s)
