use Rattle.std.proofs.Common.{arith, get_or}
use Rattle.pieces.proofs.Finding.{laid_firsts}
use Rattle.pieces.proofs.PlaceLaws.{none-behind_path, behind_path}
use Rattle.pieces.proofs.places.place_for.Goals as goal

pub first_past-requires : goal.first_past-requires
first_past-requires c = record { rising = laid_firsts _ c.requires }

pub returns-clause-before : goal.returns-clause-before
returns-clause-before c = none-behind_path c.args.path c.args.pieces.now c.first_past.result c.first_past.ensures.within c.first_past.ensures.before

pub returns-clause-at : goal.returns-clause-at
returns-clause-at c d lt = behind_path c.args.path (get_or c.args.pieces.now c.first_past.result d) (c.first_past.ensures.past c.first_past.result d (omega arith) lt)
