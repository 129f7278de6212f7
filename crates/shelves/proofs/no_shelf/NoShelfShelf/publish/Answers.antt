use Rattle.std.proofs.Common.{[], refl}
use Rattle.shelves.proofs.no_shelf.NoShelfShelf.publish.Goals as goal

pub returns-clause-shown : goal.returns-clause-shown
returns-clause-shown c = record { first = []; parted = refl; shown = λ cs h. tt }
