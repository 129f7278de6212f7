use Rattle.std.proofs.Common.{◌∙◌, Some, sym, ap, subst, arith}
use Rattle.cell_session.specs.FedDealing.{EndsFedAs}
use Rattle.cell_session.proofs.FedLoops.{fed_to_none}
use Rattle.cell_session.proofs.FedRounds.{round_ready, round_unread, round_few, segment_stop, round_over, round_counts, round_limit, line_ready, line_on, line_stop, round_more, round_full, full_on, fault_is, read_risen, read_no_fault}
use Rattle.cell_session.proofs.SegmentLaws.{risen_before}
use Rattle.cell_session.proofs.feeding.feed_segments.Goals as goal

pub loop-commands-init : goal.loop-commands-init
loop-commands-init g c =
    let is = c.requires.reader in
    (λ plans kept. fed_to_none _ _ _ _ _ _ _ _ c.requires.new.setting is kept c.requires.new.unkept c.requires.new.unread, (ap (λ r. r.max_lines) is, ap (λ r. r.max_bytes) is), omega (arith, ap (λ r. r.lines) is), (omega arith, omega arith), c.requires.settled, omega (arith, ap (λ r. r.lines) is))

pub loop-commands-smaller : goal.loop-commands-smaller
loop-commands-smaller g c =
    let so = c.loop-commands.invariant in
    let on = line_on (let k = c.segments_are_kept.ensures in record { together = k.together; short = k.short; alone = k.alone; ready = k.ready }) c.args.setting.now c.args.setting.now.schema c.args.feeders c.requires.new.plans (g.S.Source.left c.args.source.now) c.loop-commands.reader (g.S.Source.left c.loop-commands.source) c.loop-commands.counts c.loop-commands.session.cell (g.K.Sink.written c.args.sink.now) (g.K.Sink.written c.loop-commands.sink)
    (c.loop-commands.invariant.0 c.requires.new.plans c.requires.new.kept)
    c.next_segment.new.reader (g.S.Source.left c.next_segment.new.source) c.loop-commands.first c.in-Ok.field-0.commands.items c.in-Ok.field-0.next so.1.0 so.1.1 so.2 so.5 c.in-Ok.ensures.read c.in-Ok.ensures.still c.in-Ok.ensures.ends
    c.answer_segment.new.session.cell (g.K.Sink.written c.answer_segment.new.sink) c.in_default-answer_segment.ensures.fed c.in_default-answer_segment.ensures.written c.in-Command.number c.in-Command.command (c.in-Some.is ∙ ap Some c.in-Command.is) in
    omega (arith, on.few, on.more)

pub loop-commands-preserved : goal.loop-commands-preserved
loop-commands-preserved g c =
    let so = c.loop-commands.invariant in
    let on = line_on (let k = c.segments_are_kept.ensures in record { together = k.together; short = k.short; alone = k.alone; ready = k.ready }) c.args.setting.now c.args.setting.now.schema c.args.feeders c.requires.new.plans (g.S.Source.left c.args.source.now) c.loop-commands.reader (g.S.Source.left c.loop-commands.source) c.loop-commands.counts c.loop-commands.session.cell (g.K.Sink.written c.args.sink.now) (g.K.Sink.written c.loop-commands.sink)
    (c.loop-commands.invariant.0 c.requires.new.plans c.requires.new.kept)
    c.next_segment.new.reader (g.S.Source.left c.next_segment.new.source) c.loop-commands.first c.in-Ok.field-0.commands.items c.in-Ok.field-0.next so.1.0 so.1.1 so.2 so.5 c.in-Ok.ensures.read c.in-Ok.ensures.still c.in-Ok.ensures.ends
    c.answer_segment.new.session.cell (g.K.Sink.written c.answer_segment.new.sink) c.in_default-answer_segment.ensures.fed c.in_default-answer_segment.ensures.written c.in-Command.number c.in-Command.command (c.in-Some.is ∙ ap Some c.in-Command.is) in (
      λ plans kept. round_more (let k = c.segments_are_kept.ensures in record { together = k.together; short = k.short; alone = k.alone; ready = k.ready }) c.args.setting.now c.args.setting.now.schema c.args.feeders plans (g.S.Source.left c.args.source.now) c.loop-commands.reader (g.S.Source.left c.loop-commands.source) c.loop-commands.counts c.loop-commands.session.cell (g.K.Sink.written c.args.sink.now) (g.K.Sink.written c.loop-commands.sink)
          (c.loop-commands.invariant.0 plans kept)
          c.next_segment.new.reader (g.S.Source.left c.next_segment.new.source) c.loop-commands.first c.in-Ok.field-0.commands.items c.in-Ok.field-0.next so.1.0 so.1.1 so.2 so.5 c.in-Ok.ensures.read c.in-Ok.ensures.still c.in-Ok.ensures.ends
          c.answer_segment.new.session.cell (g.K.Sink.written c.answer_segment.new.sink) c.in_default-answer_segment.ensures.fed c.in_default-answer_segment.ensures.written c.in-Command.number c.in-Command.command (c.in-Some.is ∙ ap Some c.in-Command.is)
          c.in-Ok-counts_with.counted (sym c.in-Ok-counts_with.ensures) c.answer_line.new.session.cell (g.K.Sink.written c.answer_line.new.sink) c.in_default-answer_line.ensures.dealt c.in_default-answer_line.ensures.written,
      (on.max_lines, on.max_bytes),
      on.few,
      (omega (arith, so.3.0, c.in-Ok.ensures.count), omega (arith, so.3.1, c.in_default-answer_segment.ensures.count, c.in_default-answer_line.ensures.count)),
      c.in_default-answer_line.ensures.settled,
      omega (arith, on.stands),
    )

pub returns-in_default-clause-ended : goal.returns-in_default-clause-ended
returns-in_default-clause-ended g c plans kept =
    round_unread (let k = c.segments_are_kept.ensures in record { together = k.together; short = k.short; alone = k.alone; ready = k.ready }) c.args.setting.now c.args.setting.now.schema c.args.feeders plans (g.S.Source.left c.args.source.now) c.loop-commands.reader (g.S.Source.left c.loop-commands.source) c.loop-commands.counts c.loop-commands.session.cell (g.K.Sink.written c.args.sink.now) (g.K.Sink.written c.loop-commands.sink)
    (c.loop-commands.invariant.0 plans kept) (g.S.Source.left c.next_segment.new.source)

pub returns-in_default-clause-source_calm : goal.returns-in_default-clause-source_calm
returns-in_default-clause-source_calm g c =
    let so = c.loop-commands.invariant in
    omega (arith, so.3.0, c.in_default.ensures.count)

pub returns-in_default-clause-sink_calm : goal.returns-in_default-clause-sink_calm
returns-in_default-clause-sink_calm g c =
    c.loop-commands.invariant.3.1

pub answer_segment-requires-clause-ready : goal.answer_segment-requires-clause-ready
answer_segment-requires-clause-ready g c κs lives =
    let so = c.loop-commands.invariant in
    round_ready (let k = c.segments_are_kept.ensures in record { together = k.together; short = k.short; alone = k.alone; ready = k.ready }) c.args.setting.now c.args.setting.now.schema c.args.feeders c.requires.new.plans (g.S.Source.left c.args.source.now) c.loop-commands.reader (g.S.Source.left c.loop-commands.source) c.loop-commands.counts c.loop-commands.session.cell (g.K.Sink.written c.args.sink.now) (g.K.Sink.written c.loop-commands.sink)
    (c.loop-commands.invariant.0 c.requires.new.plans c.requires.new.kept) c.loop-commands.first so.5

pub answer_segment-requires-clause-few : goal.answer_segment-requires-clause-few
answer_segment-requires-clause-few g c κs lives =
    let so = c.loop-commands.invariant in
    round_few (let k = c.segments_are_kept.ensures in record { together = k.together; short = k.short; alone = k.alone; ready = k.ready }) c.args.setting.now c.args.setting.now.schema c.args.feeders c.requires.new.plans (g.S.Source.left c.args.source.now) c.loop-commands.reader (g.S.Source.left c.loop-commands.source) c.loop-commands.counts c.loop-commands.session.cell (g.K.Sink.written c.args.sink.now) (g.K.Sink.written c.loop-commands.sink)
    (c.loop-commands.invariant.0 c.requires.new.plans c.requires.new.kept)
    c.next_segment.new.reader (g.S.Source.left c.next_segment.new.source) c.loop-commands.first c.in-Ok.field-0.commands.items c.in-Ok.field-0.next so.1.0 so.1.1 so.2 so.5 c.in-Ok.ensures.read c.in-Ok.ensures.still c.in-Ok.ensures.ends

pub answer_segment-requires-clause-settled : goal.answer_segment-requires-clause-settled
answer_segment-requires-clause-settled g c κs lives =
    c.loop-commands.invariant.4

pub returns-in-Err-clause-ended : goal.returns-in-Err-clause-ended
returns-in-Err-clause-ended g c plans kept =
    let so = c.loop-commands.invariant in
    subst (λ end. EndsFedAs end c.args.setting.now c.args.setting.now.schema c.args.feeders plans (g.S.Source.left c.args.source.now) (g.S.Source.left c.next_segment.new.source) c.answer_segment.new.session.cell (g.K.Sink.written c.args.sink.now) (g.K.Sink.written c.answer_segment.new.sink)) (sym c.status.ensures)
    (segment_stop (let k = c.segments_are_kept.ensures in record { together = k.together; short = k.short; alone = k.alone; ready = k.ready }) c.args.setting.now c.args.setting.now.schema c.args.feeders plans (g.S.Source.left c.args.source.now) c.loop-commands.reader (g.S.Source.left c.loop-commands.source) c.loop-commands.counts c.loop-commands.session.cell (g.K.Sink.written c.args.sink.now) (g.K.Sink.written c.loop-commands.sink)
    (c.loop-commands.invariant.0 plans kept)
    c.next_segment.new.reader (g.S.Source.left c.next_segment.new.source) c.loop-commands.first c.in-Ok.field-0.commands.items c.in-Ok.field-0.next so.1.0 so.1.1 so.2 so.5 c.in-Ok.ensures.read c.in-Ok.ensures.still c.in-Ok.ensures.ends
    c.in-Err.stop c.answer_segment.new.session.cell (g.K.Sink.written c.answer_segment.new.sink) c.in-Err.ensures.stopped)

pub returns-in-Err-clause-write_fault : goal.returns-in-Err-clause-write_fault
returns-in-Err-clause-write_fault g c is =
    let so = c.loop-commands.invariant in
    risen_before g.K.Sink.last _ _ _ so.3.1 (c.in-Err.ensures.fault (fault_is c.in-Err.stop (sym c.status.ensures ∙ is)))

pub returns-in-Err-clause-source_calm : goal.returns-in-Err-clause-source_calm
returns-in-Err-clause-source_calm g c =
    let so = c.loop-commands.invariant in
    omega (arith, so.3.0, c.in-Ok.ensures.count)

pub returns-in-Err-clause-sink_calm : goal.returns-in-Err-clause-sink_calm
returns-in-Err-clause-sink_calm g c =
    let so = c.loop-commands.invariant in
    omega (arith, so.3.1, c.in-Err.ensures.count)

pub returns-in-Over-clause-ended : goal.returns-in-Over-clause-ended
returns-in-Over-clause-ended g c plans kept =
    let so = c.loop-commands.invariant in
    round_over (let k = c.segments_are_kept.ensures in record { together = k.together; short = k.short; alone = k.alone; ready = k.ready }) c.args.setting.now c.args.setting.now.schema c.args.feeders plans (g.S.Source.left c.args.source.now) c.loop-commands.reader (g.S.Source.left c.loop-commands.source) c.loop-commands.counts c.loop-commands.session.cell (g.K.Sink.written c.args.sink.now) (g.K.Sink.written c.loop-commands.sink)
    (c.loop-commands.invariant.0 plans kept)
    c.next_segment.new.reader (g.S.Source.left c.next_segment.new.source) c.loop-commands.first c.in-Ok.field-0.commands.items c.in-Ok.field-0.next so.1.0 so.1.1 so.2 so.5 c.in-Ok.ensures.read c.in-Ok.ensures.still c.in-Ok.ensures.ends
    c.answer_segment.new.session.cell (g.K.Sink.written c.answer_segment.new.sink) c.in_default-answer_segment.ensures.fed c.in_default-answer_segment.ensures.written
    c.in-Over.status g.S.Source.last (g.S.Source.faults c.loop-commands.source) (g.S.Source.faults c.next_segment.new.source) (c.in-Some.is ∙ ap Some c.in-Over.is) c.in-Ok.ensures.cause

pub returns-in-Over-clause-read_fault : goal.returns-in-Over-clause-read_fault
returns-in-Over-clause-read_fault g c is =
    let so = c.loop-commands.invariant in
    risen_before g.S.Source.last _ _ _ so.3.0 (read_risen c.in-Ok.field-0.next c.in-Over.status g.S.Source.last _ _ (c.in-Some.is ∙ ap Some c.in-Over.is) is c.in-Ok.ensures.cause)

pub returns-in-Over-clause-write_fault : goal.returns-in-Over-clause-write_fault
returns-in-Over-clause-write_fault g c is =
    absurd (read_no_fault c.in-Ok.field-0.next c.in-Over.status g.S.Source.last _ _ (c.in-Some.is ∙ ap Some c.in-Over.is) is c.in-Ok.ensures.cause)

pub returns-in-Over-clause-source_calm : goal.returns-in-Over-clause-source_calm
returns-in-Over-clause-source_calm g c =
    let so = c.loop-commands.invariant in
    omega (arith, so.3.0, c.in-Ok.ensures.count)

pub returns-in-Over-clause-sink_calm : goal.returns-in-Over-clause-sink_calm
returns-in-Over-clause-sink_calm g c =
    let so = c.loop-commands.invariant in
    omega (arith, so.3.1, c.in_default-answer_segment.ensures.count)

pub counts_with-requires-clause-states : goal.counts_with-requires-clause-states
counts_with-requires-clause-states g c =
    let so = c.loop-commands.invariant in
    (round_counts (let k = c.segments_are_kept.ensures in record { together = k.together; short = k.short; alone = k.alone; ready = k.ready }) c.args.setting.now c.args.setting.now.schema c.args.feeders c.requires.new.plans (g.S.Source.left c.args.source.now) c.loop-commands.reader (g.S.Source.left c.loop-commands.source) c.loop-commands.counts c.loop-commands.session.cell (g.K.Sink.written c.args.sink.now) (g.K.Sink.written c.loop-commands.sink)
    (c.loop-commands.invariant.0 c.requires.new.plans c.requires.new.kept)
    c.next_segment.new.reader (g.S.Source.left c.next_segment.new.source) c.loop-commands.first c.in-Ok.field-0.commands.items c.in-Ok.field-0.next so.1.0 so.1.1 so.2 so.5 c.in-Ok.ensures.read c.in-Ok.ensures.still c.in-Ok.ensures.ends
    c.answer_segment.new.session.cell (g.K.Sink.written c.answer_segment.new.sink) c.in_default-answer_segment.ensures.fed c.in_default-answer_segment.ensures.written).0

pub counts_with-requires-clause-maintains : goal.counts_with-requires-clause-maintains
counts_with-requires-clause-maintains g c =
    let so = c.loop-commands.invariant in
    (round_counts (let k = c.segments_are_kept.ensures in record { together = k.together; short = k.short; alone = k.alone; ready = k.ready }) c.args.setting.now c.args.setting.now.schema c.args.feeders c.requires.new.plans (g.S.Source.left c.args.source.now) c.loop-commands.reader (g.S.Source.left c.loop-commands.source) c.loop-commands.counts c.loop-commands.session.cell (g.K.Sink.written c.args.sink.now) (g.K.Sink.written c.loop-commands.sink)
    (c.loop-commands.invariant.0 c.requires.new.plans c.requires.new.kept)
    c.next_segment.new.reader (g.S.Source.left c.next_segment.new.source) c.loop-commands.first c.in-Ok.field-0.commands.items c.in-Ok.field-0.next so.1.0 so.1.1 so.2 so.5 c.in-Ok.ensures.read c.in-Ok.ensures.still c.in-Ok.ensures.ends
    c.answer_segment.new.session.cell (g.K.Sink.written c.answer_segment.new.sink) c.in_default-answer_segment.ensures.fed c.in_default-answer_segment.ensures.written).1

pub returns-in-Err-counts_with-clause-ended : goal.returns-in-Err-counts_with-clause-ended
returns-in-Err-counts_with-clause-ended g c plans kept =
    let so = c.loop-commands.invariant in
    round_limit (let k = c.segments_are_kept.ensures in record { together = k.together; short = k.short; alone = k.alone; ready = k.ready }) c.args.setting.now c.args.setting.now.schema c.args.feeders plans (g.S.Source.left c.args.source.now) c.loop-commands.reader (g.S.Source.left c.loop-commands.source) c.loop-commands.counts c.loop-commands.session.cell (g.K.Sink.written c.args.sink.now) (g.K.Sink.written c.loop-commands.sink)
    (c.loop-commands.invariant.0 plans kept)
    c.next_segment.new.reader (g.S.Source.left c.next_segment.new.source) c.loop-commands.first c.in-Ok.field-0.commands.items c.in-Ok.field-0.next so.1.0 so.1.1 so.2 so.5 c.in-Ok.ensures.read c.in-Ok.ensures.still c.in-Ok.ensures.ends
    c.answer_segment.new.session.cell (g.K.Sink.written c.answer_segment.new.sink) c.in_default-answer_segment.ensures.fed c.in_default-answer_segment.ensures.written c.in-Command.number c.in-Command.command (c.in-Some.is ∙ ap Some c.in-Command.is) c.in-Err-counts_with.which (sym c.in-Err-counts_with.ensures)

pub returns-in-Err-counts_with-clause-source_calm : goal.returns-in-Err-counts_with-clause-source_calm
returns-in-Err-counts_with-clause-source_calm g c =
    let so = c.loop-commands.invariant in
    omega (arith, so.3.0, c.in-Ok.ensures.count)

pub returns-in-Err-counts_with-clause-sink_calm : goal.returns-in-Err-counts_with-clause-sink_calm
returns-in-Err-counts_with-clause-sink_calm g c =
    let so = c.loop-commands.invariant in
    omega (arith, so.3.1, c.in_default-answer_segment.ensures.count)

pub answer_line-requires-clause-ready : goal.answer_line-requires-clause-ready
answer_line-requires-clause-ready g c =
    let so = c.loop-commands.invariant in
    line_ready (let k = c.segments_are_kept.ensures in record { together = k.together; short = k.short; alone = k.alone; ready = k.ready }) c.args.setting.now c.args.setting.now.schema c.args.feeders c.requires.new.plans (g.S.Source.left c.args.source.now) c.loop-commands.reader (g.S.Source.left c.loop-commands.source) c.loop-commands.counts c.loop-commands.session.cell (g.K.Sink.written c.args.sink.now) (g.K.Sink.written c.loop-commands.sink)
    (c.loop-commands.invariant.0 c.requires.new.plans c.requires.new.kept)
    c.next_segment.new.reader (g.S.Source.left c.next_segment.new.source) c.loop-commands.first c.in-Ok.field-0.commands.items c.in-Ok.field-0.next so.1.0 so.1.1 so.2 so.5 c.in-Ok.ensures.read c.in-Ok.ensures.still c.in-Ok.ensures.ends
    c.answer_segment.new.session.cell (g.K.Sink.written c.answer_segment.new.sink) c.in_default-answer_segment.ensures.fed c.in_default-answer_segment.ensures.written c.in-Command.number c.in-Command.command (c.in-Some.is ∙ ap Some c.in-Command.is)

pub returns-in-Err-answer_line-clause-ended : goal.returns-in-Err-answer_line-clause-ended
returns-in-Err-answer_line-clause-ended g c plans kept =
    let so = c.loop-commands.invariant in
    subst (λ end. EndsFedAs end c.args.setting.now c.args.setting.now.schema c.args.feeders plans (g.S.Source.left c.args.source.now) (g.S.Source.left c.next_segment.new.source) c.answer_line.new.session.cell (g.K.Sink.written c.args.sink.now) (g.K.Sink.written c.answer_line.new.sink)) (sym c.status-in-Err-answer_line.ensures)
    (line_stop (let k = c.segments_are_kept.ensures in record { together = k.together; short = k.short; alone = k.alone; ready = k.ready }) c.args.setting.now c.args.setting.now.schema c.args.feeders plans (g.S.Source.left c.args.source.now) c.loop-commands.reader (g.S.Source.left c.loop-commands.source) c.loop-commands.counts c.loop-commands.session.cell (g.K.Sink.written c.args.sink.now) (g.K.Sink.written c.loop-commands.sink)
    (c.loop-commands.invariant.0 plans kept)
    c.next_segment.new.reader (g.S.Source.left c.next_segment.new.source) c.loop-commands.first c.in-Ok.field-0.commands.items c.in-Ok.field-0.next so.1.0 so.1.1 so.2 so.5 c.in-Ok.ensures.read c.in-Ok.ensures.still c.in-Ok.ensures.ends
    c.answer_segment.new.session.cell (g.K.Sink.written c.answer_segment.new.sink) c.in_default-answer_segment.ensures.fed c.in_default-answer_segment.ensures.written c.in-Command.number c.in-Command.command (c.in-Some.is ∙ ap Some c.in-Command.is)
    c.in-Ok-counts_with.counted (sym c.in-Ok-counts_with.ensures) c.answer_line.new.session.cell (g.K.Sink.written c.answer_line.new.sink) c.in-Err-answer_line.stop c.in-Err-answer_line.ensures.stopped)

pub returns-in-Err-answer_line-clause-write_fault : goal.returns-in-Err-answer_line-clause-write_fault
returns-in-Err-answer_line-clause-write_fault g c is =
    let so = c.loop-commands.invariant in
    risen_before g.K.Sink.last _ _ _ (omega (arith, so.3.1, c.in_default-answer_segment.ensures.count)) (c.in-Err-answer_line.ensures.fault (fault_is c.in-Err-answer_line.stop (sym c.status-in-Err-answer_line.ensures ∙ is)))

pub returns-in-Err-answer_line-clause-source_calm : goal.returns-in-Err-answer_line-clause-source_calm
returns-in-Err-answer_line-clause-source_calm g c =
    let so = c.loop-commands.invariant in
    omega (arith, so.3.0, c.in-Ok.ensures.count)

pub returns-in-Err-answer_line-clause-sink_calm : goal.returns-in-Err-answer_line-clause-sink_calm
returns-in-Err-answer_line-clause-sink_calm g c =
    let so = c.loop-commands.invariant in
    omega (arith, so.3.1, c.in_default-answer_segment.ensures.count, c.in-Err-answer_line.ensures.count)

pub loop-commands-smaller-in_default-next : goal.loop-commands-smaller-in_default-next
loop-commands-smaller-in_default-next g c =
    let so = c.loop-commands.invariant in
    let on = full_on (let k = c.segments_are_kept.ensures in record { together = k.together; short = k.short; alone = k.alone; ready = k.ready }) c.args.setting.now c.args.setting.now.schema c.args.feeders c.requires.new.plans (g.S.Source.left c.args.source.now) c.loop-commands.reader (g.S.Source.left c.loop-commands.source) c.loop-commands.counts c.loop-commands.session.cell (g.K.Sink.written c.args.sink.now) (g.K.Sink.written c.loop-commands.sink)
    (c.loop-commands.invariant.0 c.requires.new.plans c.requires.new.kept)
    c.next_segment.new.reader (g.S.Source.left c.next_segment.new.source) c.loop-commands.first c.in-Ok.field-0.commands.items c.in-Ok.field-0.next so.1.0 so.1.1 so.2 so.5 c.in-Ok.ensures.read c.in-Ok.ensures.still c.in-Ok.ensures.ends
    c.answer_segment.new.session.cell (g.K.Sink.written c.answer_segment.new.sink) c.in_default-answer_segment.ensures.fed c.in_default-answer_segment.ensures.written c.in_default-next.is in
    omega (arith, on.few, on.stands, on.some)

pub loop-commands-preserved-in_default-next : goal.loop-commands-preserved-in_default-next
loop-commands-preserved-in_default-next g c =
    let so = c.loop-commands.invariant in
    let on = full_on (let k = c.segments_are_kept.ensures in record { together = k.together; short = k.short; alone = k.alone; ready = k.ready }) c.args.setting.now c.args.setting.now.schema c.args.feeders c.requires.new.plans (g.S.Source.left c.args.source.now) c.loop-commands.reader (g.S.Source.left c.loop-commands.source) c.loop-commands.counts c.loop-commands.session.cell (g.K.Sink.written c.args.sink.now) (g.K.Sink.written c.loop-commands.sink)
    (c.loop-commands.invariant.0 c.requires.new.plans c.requires.new.kept)
    c.next_segment.new.reader (g.S.Source.left c.next_segment.new.source) c.loop-commands.first c.in-Ok.field-0.commands.items c.in-Ok.field-0.next so.1.0 so.1.1 so.2 so.5 c.in-Ok.ensures.read c.in-Ok.ensures.still c.in-Ok.ensures.ends
    c.answer_segment.new.session.cell (g.K.Sink.written c.answer_segment.new.sink) c.in_default-answer_segment.ensures.fed c.in_default-answer_segment.ensures.written c.in_default-next.is in (
      λ plans kept. round_full (let k = c.segments_are_kept.ensures in record { together = k.together; short = k.short; alone = k.alone; ready = k.ready }) c.args.setting.now c.args.setting.now.schema c.args.feeders plans (g.S.Source.left c.args.source.now) c.loop-commands.reader (g.S.Source.left c.loop-commands.source) c.loop-commands.counts c.loop-commands.session.cell (g.K.Sink.written c.args.sink.now) (g.K.Sink.written c.loop-commands.sink)
          (c.loop-commands.invariant.0 plans kept)
          c.next_segment.new.reader (g.S.Source.left c.next_segment.new.source) c.loop-commands.first c.in-Ok.field-0.commands.items c.in-Ok.field-0.next so.1.0 so.1.1 so.2 so.5 c.in-Ok.ensures.read c.in-Ok.ensures.still c.in-Ok.ensures.ends
          c.answer_segment.new.session.cell (g.K.Sink.written c.answer_segment.new.sink) c.in_default-answer_segment.ensures.fed c.in_default-answer_segment.ensures.written c.in_default-next.is,
      (on.max_lines, on.max_bytes),
      on.few,
      (omega (arith, so.3.0, c.in-Ok.ensures.count), omega (arith, so.3.1, c.in_default-answer_segment.ensures.count)),
      c.in_default-answer_segment.ensures.settled,
      omega (arith, so.5, on.stands, c.len-count.ensures),
    )

pub overflow_add-first : goal.overflow_add-first
overflow_add-first g c =
    let so = c.loop-commands.invariant in
    let few = round_few (let k = c.segments_are_kept.ensures in record { together = k.together; short = k.short; alone = k.alone; ready = k.ready }) c.args.setting.now c.args.setting.now.schema c.args.feeders c.requires.new.plans (g.S.Source.left c.args.source.now) c.loop-commands.reader (g.S.Source.left c.loop-commands.source) c.loop-commands.counts c.loop-commands.session.cell (g.K.Sink.written c.args.sink.now) (g.K.Sink.written c.loop-commands.sink)
    (c.loop-commands.invariant.0 c.requires.new.plans c.requires.new.kept)
    c.next_segment.new.reader (g.S.Source.left c.next_segment.new.source) c.loop-commands.first c.in-Ok.field-0.commands.items c.in-Ok.field-0.next so.1.0 so.1.1 so.2 so.5 c.in-Ok.ensures.read c.in-Ok.ensures.still c.in-Ok.ensures.ends in
    omega (arith, few, c.len-count.ensures)
