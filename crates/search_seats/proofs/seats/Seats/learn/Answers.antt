use Rattle.std.proofs.Common.{◌<◌, List, Option, length, get_or, set, subst, rules}
use Rattle.generation_guard.specs.Known.{Known}
use Rattle.search_seats.specs.Searches.{KeepsSeat, KeepSeats}
use Rattle.search_seats.proofs.Keeping.{keep_all, keep_set}
use Rattle.search_seats.proofs.seats.Seats.learn.Goals as goal

pub returns-then-at-len-clause-keeps : goal.returns-then-at-len-clause-keeps
returns-then-at-len-clause-keeps c =
    let seats = c.self.inside.seats.items in
    let at = c.from-at.result in
    let now = c.learn.new.seat in
    let less : at < length seats = search rules in
    let step : KeepsSeat (get_or seats at c.index_mut.result.now) now = subst (λ (s : Option Known). KeepsSeat s now) c.index_mut.ensures.value c.learn.ensures.keeps in
    subst (λ (l : List (Option Known)). KeepSeats l (set seats at now)) c.self.view_is (keep_set seats at now c.index_mut.result.now less step)

pub returns-else-at-len-clause-keeps : goal.returns-else-at-len-clause-keeps
returns-else-at-len-clause-keeps c = keep_all c.args.self.now
