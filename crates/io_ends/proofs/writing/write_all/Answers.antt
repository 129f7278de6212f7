use Rattle.std.proofs.Common.{sym, ap, subst, take-add, length-drop, length, arith}
use Rattle.std.specs.Io.KnownBytes.{Appends}
use Rattle.std.proofs.KnownBytes.{Appends-trans}
use Rattle.io_ends.proofs.writing.write_all.Goals as goal

pub loop-done-preserved : goal.loop-done-preserved
loop-done-preserved g c =
    let bytes = c.args.bytes.now in
    let done = c.loop-done.done in
    let both = Appends-trans _ _ _ _ _ c.loop-done.invariant.0 (rw c.split_at.ensures.back at c.in-Ok.ensures.bytes) in (
      subst (Appends _ _) (sym (take-add done c.in-Ok.count bytes)) both,
      omega (arith, c.in-Ok.ensures.bound, ap length c.split_at.ensures.back, length-drop done bytes),
      omega (arith, c.loop-done.invariant.2, c.write.ensures.count),
    )
