use Rattle.std.proofs.Common.{◌∙◌, sym, ap, arith}
use Rattle.cell_session.proofs.Loops.{so_far_new, so_far_ready, so_far_more, over_ends, full_end, fault_ends, memory_ends, opened_ends}
use Rattle.cell_session.proofs.LastReads.{near_none, fault_reads}
use Rattle.cell_session.proofs.running.serve_lines.Goals as goal

pub returns-in_default-clause-ended : goal.returns-in_default-clause-ended
returns-in_default-clause-ended g c plans kept = opened_ends _ _ _ _ _ _ _ kept c.requires.new.unkept c.requires.new.unread

pub loop-number-init : goal.loop-number-init
loop-number-init g c =
    let is = c.in-Ok.ensures in
    (λ plans kept. so_far_new _ _ _ _ _ _ _ c.requires.new.setting is kept c.requires.new.unkept c.requires.new.unread, (ap (λ r. r.max_lines) is, ap (λ r. r.max_bytes) is), omega (arith, ap (λ r. r.lines) is), (omega arith, omega arith), c.requires.settled, near_none _ _ (ap (λ r. r.ahead) is))

pub counts_with-requires-clause-states : goal.counts_with-requires-clause-states
counts_with-requires-clause-states g c = (c.loop-number.invariant.0 c.requires.new.plans c.requires.new.kept).few_states

pub counts_with-requires-clause-maintains : goal.counts_with-requires-clause-maintains
counts_with-requires-clause-maintains g c = (c.loop-number.invariant.0 c.requires.new.plans c.requires.new.kept).few_maintains

pub answer_line-requires-clause-ready : goal.answer_line-requires-clause-ready
answer_line-requires-clause-ready g c = so_far_ready _ _ _ _ _ _ _ _ _ _ _ (c.loop-number.invariant.0 c.requires.new.plans c.requires.new.kept) c.in-Command.ensures.advances.numbered

pub answer_line-requires-clause-settled : goal.answer_line-requires-clause-settled
answer_line-requires-clause-settled g c = c.loop-number.invariant.4

pub loop-number-preserved : goal.loop-number-preserved
loop-number-preserved g c =
    let so = c.loop-number.invariant in
    let seen = c.in-Command.ensures in
    let told = c.in-Ok-answer_line.ensures in
    let grows = seen.advances.grows in
    let same_lines = grows.max_lines ∙ so.1.0 in (
      λ plans kept. so_far_more _ _ _ _ _ _ _ _ _ _ _ _ _ _ _ _ _ (so.0 plans kept) so.1.0 so.1.1 seen.shows seen.stands (sym c.in-Ok-counts_with.ensures) seen.advances.numbered (omega (arith, seen.advances.numbered, grows.lines, seen.advances.few, same_lines)) grows.lines told.dealt told.written,
      (same_lines, grows.max_bytes ∙ so.1.1),
      omega (arith, seen.advances.few, same_lines),
      (omega (arith, so.3.0, seen.count), omega (arith, so.3.1, told.count)),
      told.settled,
      seen.last so.5,
    )

pub returns-in-Over-clause-ended : goal.returns-in-Over-clause-ended
returns-in-Over-clause-ended g c plans kept =
    let so = c.loop-number.invariant in
    let over = c.in-Over.ensures in
    over_ends _ _ _ _ _ _ _ _ _ _ _ _ _ (so.0 plans kept) so.1.0 so.1.1 over.shows over.stands over.advances _ _ _ over.cause

pub returns-in-Err-clause-ended : goal.returns-in-Err-clause-ended
returns-in-Err-clause-ended g c plans kept =
    let so = c.loop-number.invariant in
    let seen = c.in-Command.ensures in
    full_end _ _ _ _ _ _ _ _ _ _ _ 0 _ _ (so.0 plans kept) so.1.0 so.1.1 seen.shows (sym c.in-Err.ensures)

pub returns-in-Err-Fault-clause-ended : goal.returns-in-Err-Fault-clause-ended
returns-in-Err-Fault-clause-ended g c plans kept =
    let so = c.loop-number.invariant in
    let seen = c.in-Command.ensures in
    fault_ends _ _ _ _ _ _ _ _ _ _ _ _ _ _ _ _ _ _ (so.0 plans kept) so.1.0 so.1.1 seen.shows seen.stands (sym c.in-Ok-counts_with.ensures) seen.advances.numbered (omega (arith, seen.advances.numbered, seen.advances.grows.lines, seen.advances.few, seen.advances.grows.max_lines, so.1.0)) seen.advances.grows.lines seen.advances.little c.in-Err-Fault.field-0-is c.in-Err-Fault.ensures.stopped

pub returns-in-Err-Memory-clause-ended : goal.returns-in-Err-Memory-clause-ended
returns-in-Err-Memory-clause-ended g c plans kept =
    let so = c.loop-number.invariant in
    let seen = c.in-Command.ensures in
    memory_ends _ _ _ _ _ _ _ _ _ _ _ _ _ _ _ _ _ _ (so.0 plans kept) so.1.0 so.1.1 seen.shows seen.stands (sym c.in-Ok-counts_with.ensures) seen.advances.numbered (omega (arith, seen.advances.numbered, seen.advances.grows.lines, seen.advances.few, seen.advances.grows.max_lines, so.1.0)) c.in-Err-Memory.field-0-is c.in-Err-Memory.ensures.stopped

pub returns-in-Err-Fault-clause-nothing_more : goal.returns-in-Err-Fault-clause-nothing_more
returns-in-Err-Fault-clause-nothing_more g c is =
    let so = c.loop-number.invariant in
    let seen = c.in-Command.ensures in
    let kept = c.requires.new.kept in
    fault_reads _ _ _ _ _ _ _ _ _ _ _ _ _ _ _ _ _ _ (so.0 c.requires.new.plans kept) seen.stands (λ t st. seen.ends t st so.5) seen.advances.numbered seen.advances.grows.lines c.in-Err-Fault.field-0-is c.in-Err-Fault.ensures.stopped
