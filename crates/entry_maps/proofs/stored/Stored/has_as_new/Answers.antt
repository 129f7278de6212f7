use Rattle.std.proofs.Common.{arith}
use Rattle.entry_rows.specs.Chunks.{place}
use Rattle.entry_maps.specs.Slots.{slots_in}
use Rattle.entry_maps.proofs.MergeLaws.{here_so_far}
use Rattle.entry_maps.proofs.stored.Stored.has_as_new.Goals as goal

pub loop-theirs-preserved : goal.loop-theirs-preserved
loop-theirs-preserved c =
    let inv = c.loop-theirs.invariant in (
      c.next-one.ensures.seat,
      c.next_if-two.ensures.seat,
      omega (arith, c.next-one.ensures.next, c.in-Some-slot.ensures.within),
      c.next_if-two.ensures.within inv.3,
      here_so_far (slots_in c.args.self.now) (slots_in c.args.other.now) (place c.args.self.now.list c.loop-theirs.one) (place c.args.other.now.list c.loop-theirs.two) _ c.in-Some-slot.own.now
          c.in-Some.theirs.now c.in-Some-passes.same c.requires.own.kept c.in-Some-slot.ensures.within c.in-Some.ensures.within c.in-Some-slot.ensures.slot c.in-Some.ensures.slot
          c.in-Some-passes.ensures c.next_if-two.ensures.next inv.4,
    )
