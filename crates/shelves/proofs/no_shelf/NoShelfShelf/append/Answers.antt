use Rattle.std.proofs.Common.{[], ◌∷◌, refl}
use Rattle.shelves.proofs.no_shelf.NoShelfShelf.append.Goals as goal

pub returns-clause-taken : goal.returns-clause-taken
returns-clause-taken c = record { first = c.args._change ∷ []; parted = refl; shown = λ cs h. tt }
