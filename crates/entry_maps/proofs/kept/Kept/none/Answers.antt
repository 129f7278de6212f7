use Rattle.entry_maps.proofs.KeptLaws.{kept_none}
use Rattle.entry_maps.proofs.kept.Kept.none.Goals as goal

pub returns-clause-well : goal.returns-clause-well
returns-clause-well c = record { kept = rw c.new.ensures.slots kept_none; counted = c.new.ensures.counted }
