use Rattle.pieces.proofs.Finding.{IsRun-found, laid_firsts, laid_lasts}
use Rattle.pieces.proofs.places.run_of.Goals as goal

pub returns-clause-run : goal.returns-clause-run
returns-clause-run c = IsRun-found c.runs_are_known.ensures c.args.bucket c.args.pieces.now c.first_from.result c.first_past.result c.run-first.ensures.valid c.requires c.first_from.ensures.within c.first_past.ensures.within
    (rw c.run-first.ensures.first at c.first_from.ensures.before) (rw c.run-first.ensures.first at c.first_from.ensures.from)
    (rw c.run-first.ensures.last at c.first_past.ensures.before) (rw c.run-first.ensures.last at c.first_past.ensures.past)

pub first_from-requires : goal.first_from-requires
first_from-requires c = record { rising = laid_lasts _ c.requires }

pub first_past-requires : goal.first_past-requires
first_past-requires c = record { rising = laid_firsts _ c.requires }
