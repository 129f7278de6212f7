use Rattle.std.proofs.Common.{◌≢◌, get_or, arith, subst}
use Rattle.entry_rows.specs.Chunks.{flat, place}
use Rattle.entry_maps.proofs.KeptLaws.{none_at}
use Rattle.entry_maps.proofs.seeks.seek_tied.Goals as goal

pub returns-else-is_there-clause-none : goal.returns-else-is_there-clause-none
returns-else-is_there-clause-none c =
    let slots = flat c.args.list.now in
    let at = place c.args.list.now c.first_from-spot.result in
    let same = c.settled-seat.ensures.same in
    none_at slots c.args.path c.args.id.now at c.requires.kept c.requires.path
    (rw c.text.ensures.text at c.first_from-spot.ensures.before) (rw c.text.ensures.text at c.first_from-spot.ensures.from)
    (λ lt d. subst (λ k. (get_or slots k d).entry.id ≢ c.args.id.now) same (c.is_there.ensures.other c.if-is_there.false (omega (arith, same, lt)) d))
