use Rattle.stamps.proofs.StampOrder.{IsBefore-irrefl, IsBefore-trans, IsBefore-total}
use Rattle.stamps.proofs.laws.stamps_are_ordered.Goals as goal

pub returns : goal.returns
returns c = record { strict = IsBefore-irrefl; transitive = IsBefore-trans; total = IsBefore-total }
