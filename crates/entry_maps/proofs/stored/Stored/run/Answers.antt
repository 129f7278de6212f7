use Rattle.std.proofs.Common.{ap, ◌∙◌, arith}
use Rattle.std.proofs.lemmas.Bool.{ltb-true, ltb-false}
use Rattle.std.proofs.lemmas.List.{get_or_default}
use Rattle.entry_rows.specs.Chunks.{flat, place}
use Rattle.entry_rows.proofs.OrderLaws.{paths_rise}
use Rattle.entry_maps.proofs.stored.Stored.run.Goals as goal

pub returns-then-slot-last : goal.returns-then-slot-last
returns-then-slot-last c =
    let slots = flat c.args.self.now.list in
    let at = place c.args.self.now.list c.loop-slot.to in
    let inv = c.loop-slot.invariant in
    let same = c.settled-from.ensures.same in
    record {
      from = c.settled-from.ensures.seat;
      to = inv.0;
      many = inv.2;
      within = inv.1;
      documents = inv.3;
      below = λ k d low high. ltb-true _ _ (c.first_at.ensures.before k d low (omega (arith, high, same)));
      low = λ k d low high. ltb-false _ _ (c.first_at.ensures.from k d (omega (arith, low, same)) high);
      high = inv.4;
      past = λ k d low high. omega (arith, paths_rise slots c.requires.kept.rising at k d low high, ap (λ s. s.path) (c.in-Some.ensures.slot ∙ get_or_default slots at c.in-Some.slot.now d c.in-Some.ensures.within), c.if-slot-last.true);
    }

pub returns-in_default : goal.returns-in_default
returns-in_default c =
    let slots = flat c.args.self.now.list in
    let inv = c.loop-slot.invariant in
    let same = c.settled-from.ensures.same in
    record {
      from = c.settled-from.ensures.seat;
      to = inv.0;
      many = inv.2;
      within = inv.1;
      documents = inv.3;
      below = λ k d low high. ltb-true _ _ (c.first_at.ensures.before k d low (omega (arith, high, same)));
      low = λ k d low high. ltb-false _ _ (c.first_at.ensures.from k d (omega (arith, low, same)) high);
      high = inv.4;
      past = λ k d low high. absurd (omega (arith, low, high, c.in_default.ensures.none));
    }
