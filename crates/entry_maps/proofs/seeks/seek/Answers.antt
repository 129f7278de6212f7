use Rattle.std.proofs.Common.{◌≢◌, get_or, arith, subst}
use Rattle.entry_rows.specs.Chunks.{flat, place}
use Rattle.entry_rows.proofs.OrderLaws.{lower_before, higher_from}
use Rattle.entry_maps.proofs.KeptLaws.{none_of_path}
use Rattle.entry_maps.proofs.seeks.seek.Goals as goal

pub returns-then-not-has_path-clause-none : goal.returns-then-not-has_path-clause-none
returns-then-not-has_path-clause-none c =
    let slots = flat c.args.list.now in
    let at = place c.args.list.now c.first_at-spot.result in
    let same = c.settled-seat.ensures.same in
    none_of_path slots c.args.path c.args.id.now at c.requires.kept c.requires.path c.first_at-spot.ensures.before c.first_at-spot.ensures.from
    (λ lt d. subst (λ k. (get_or slots k d).path ≢ c.args.path) same (c.has_path.ensures.other c.if-not-has_path.true (omega (arith, same, lt)) d))

pub returns-then-not-has_path-clause-spot : goal.returns-then-not-has_path-clause-spot
returns-then-not-has_path-clause-spot c =
    let slots = flat c.args.list.now in
    let at = place c.args.list.now c.first_at-spot.result in
    let same = c.settled-seat.ensures.same in
    let spot = c.first_at-spot.ensures in
    record {
      stands = spot.stands;
      lies = spot.lies;
      within = spot.within;
      before = lower_before slots c.args.path c.args.id.now at c.requires.kept.rising spot.before;
      from = higher_from slots c.args.path c.args.id.now at c.requires.kept.rising spot.from
          (λ lt d. subst (λ k. (get_or slots k d).path ≢ c.args.path) same (c.has_path.ensures.other c.if-not-has_path.true (omega (arith, same, lt)) d));
    }
