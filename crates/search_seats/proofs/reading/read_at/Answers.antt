use Rattle.std.proofs.Common.{Option, get_or, subst}
use Rattle.generation_guard.specs.Known.{Known}
use Rattle.search_seats.specs.Searches.{KeepsSeat}
use Rattle.search_seats.proofs.Keeping.{keep_set}
use Rattle.search_seats.proofs.reading.read_at.Goals as goal

pub returns-clause-keeps : goal.returns-clause-keeps
returns-clause-keeps c =
    let seats = c.args.seats.now.items in
    let now = c.read.new.seat in
    let step : KeepsSeat (get_or seats c.args.lane c.index_mut.result.now) now = subst (λ (s : Option Known). KeepsSeat s now) c.index_mut.ensures.value c.read.ensures.keeps in
    keep_set seats c.args.lane now c.index_mut.result.now c.requires.at step
