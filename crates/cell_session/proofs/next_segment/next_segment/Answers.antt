use Rattle.std.proofs.Common.{◌≡◌, ◌+◌, ◌∷◌, [], length, length-append, refl, ap, sym, subst, arith, ◌∙◌}
use Rattle.cell_session.specs.SegmentReads.{ReadsOn}
use Rattle.session_segments.specs.Parts.{AreStill, AreOwn}
use Rattle.cell_session.proofs.SegmentLaws.{on_none, on_more, end_before}
use Rattle.session_segments.proofs.PartLists.{still_push, own_push}
use Rattle.cell_session.proofs.next_segment.next_segment.Goals as goal

pub loop-alloc-init : goal.loop-alloc-init
loop-alloc-init g c = let first = on_none _ _ _ _ _ c.new-commands.ensures.items in (first.0, first.1, first.2, omega arith, omega (arith, ap length c.new-commands.ensures.items))

pub loop-alloc-smaller : goal.loop-alloc-smaller
loop-alloc-smaller g c =
    let takes = c.in-Command.ensures.advances in
    omega (arith, takes.grows.lines, takes.grows.max_lines, takes.few)

pub loop-alloc-preserved : goal.loop-alloc-preserved
loop-alloc-preserved g c =
    let so = c.loop-alloc.invariant in
    let seen = c.in-Command.ensures in
    let still = sym c.cuts.ensures ∙ c.if-cuts.false in
    let items = sym c.in_ok-push.ensures.items in (
      subst (ReadsOn _ _ _ _ _ _) items (on_more _ _ _ _ _ _ _ _ _ _ _ so.0 seen.advances seen.shows seen.stands still),
      subst AreStill items (still_push _ _ so.1 still),
      subst (AreOwn _) items (own_push _ _ _ so.2 seen.own),
      omega (arith, so.3, seen.count),
      omega (arith, ap length c.in_ok-push.ensures.items, length-append c.loop-alloc.commands.items (c.in-Command.command ∷ []), c.loop-alloc-test.true),
    )

pub returns-in-Over-clause-read : goal.returns-in-Over-clause-read
returns-in-Over-clause-read g c =
    let over = c.in-Over.ensures in
    record { mid = _; between = _; lines = c.loop-alloc.invariant.0; step = record { advances = over.advances; shows = over.shows; stands = over.stands } }

pub returns-in-Over-clause-still : goal.returns-in-Over-clause-still
returns-in-Over-clause-still g c = c.loop-alloc.invariant.1

pub returns-in-Over-clause-own : goal.returns-in-Over-clause-own
returns-in-Over-clause-own g c = (c.loop-alloc.invariant.2, tt)

pub returns-in-Over-clause-cause : goal.returns-in-Over-clause-cause
returns-in-Over-clause-cause g c = end_before c.in-Over.status g.S.Source.last (g.S.Source.faults c.args.source.now) (g.S.Source.faults c.loop-alloc.source) (g.S.Source.faults c.next_command.new.source) c.loop-alloc.invariant.3 c.in-Over.ensures.cause

pub returns-in-Over-clause-count : goal.returns-in-Over-clause-count
returns-in-Over-clause-count g c = omega (arith, c.loop-alloc.invariant.3, c.in-Over.ensures.count)

pub returns-then-cuts-clause-read : goal.returns-then-cuts-clause-read
returns-then-cuts-clause-read g c =
    let seen = c.in-Command.ensures in
    record { mid = _; between = _; lines = c.loop-alloc.invariant.0; step = record { advances = seen.advances; shows = seen.shows; stands = seen.stands } }

pub returns-then-cuts-clause-still : goal.returns-then-cuts-clause-still
returns-then-cuts-clause-still g c = c.loop-alloc.invariant.1

pub returns-then-cuts-clause-own : goal.returns-then-cuts-clause-own
returns-then-cuts-clause-own g c = (c.loop-alloc.invariant.2, c.in-Command.ensures.own)

pub returns-then-cuts-clause-count : goal.returns-then-cuts-clause-count
returns-then-cuts-clause-count g c = omega (arith, c.loop-alloc.invariant.3, c.in-Command.ensures.count)

pub returns-in_err-push-clause-count : goal.returns-in_err-push-clause-count
returns-in_err-push-clause-count g c = omega (arith, c.loop-alloc.invariant.3, c.in-Command.ensures.count)

pub returns-then-cuts-clause-ends : goal.returns-then-cuts-clause-ends
returns-then-cuts-clause-ends g c = (omega (arith, c.loop-alloc-test.true), sym c.cuts.ensures ∙ c.if-cuts.true)

pub returns-in-Over-clause-ends : goal.returns-in-Over-clause-ends
returns-in-Over-clause-ends g c = omega (arith, c.loop-alloc-test.true)

pub returns-clause-read : goal.returns-clause-read
returns-clause-read g c = record { mid = _; between = _; lines = c.loop-alloc.invariant.0; step = (refl, refl) }

pub returns-clause-still : goal.returns-clause-still
returns-clause-still g c = c.loop-alloc.invariant.1

pub returns-clause-ends : goal.returns-clause-ends
returns-clause-ends g c = omega (arith, c.loop-alloc.invariant.4, c.loop-alloc-test.false)

pub returns-clause-own : goal.returns-clause-own
returns-clause-own g c = (c.loop-alloc.invariant.2, tt)
