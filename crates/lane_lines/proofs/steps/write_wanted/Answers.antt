use Rattle.std.proofs.Common.{Bool, ap, subst}
use Rattle.lane_journals.specs.declared.event.LaneEvent.TheVariants.{Wrote}
use Rattle.lane_states.specs.declared.lane_state.LaneState.{LaneState}
use Rattle.lane_states.specs.LaneStates.{journal_of}
use Rattle.operation_keeping.specs.Wants.{Still}
use Rattle.lane_lines.specs.Steps.{StandsIn}
use Rattle.lane_lines.proofs.RunningSteps.{unwritten, writes-on, quiet-wrote, quiet-same}
use Rattle.lane_lines.proofs.Carrying.{carried-more}
use Rattle.lane_lines.proofs.steps.write_wanted.Goals as goal

pub write_entry-requires-clause-legal : goal.write_entry-requires-clause-legal
write_entry-requires-clause-legal c =
    let x = c.args.lane.now in
    let w = c.requires.wants in
    (c.operations_write.ensures.writes _ _ _ _ _ _ _ c.requires.keeps.keeps _ _ _ _ _ _ w.stands.stands.knows c.in-Store.entry
    (unwritten x.lane x.rules (journal_of x) c.args.line w.row c.args.written w.standing w.stands c.if-written.false)
    (c.operations_write.ensures.due w.standing c.args.message.now c.in-Store.entry w.next c.in-Store.is)).legal

pub returns-then-written-clause-writes : goal.returns-then-written-clause-writes
returns-then-written-clause-writes c = λ row t next st. (subst (λ (b : Bool). StandsIn c.args.lane.now c.args.line row b t) c.if-written.true st, λ from has. Still)

pub returns-in_ok-write_entry-in-Store-clause-writes : goal.returns-in_ok-write_entry-in-Store-clause-writes
returns-in_ok-write_entry-in-Store-clause-writes c =
    let x = c.args.lane.now in
    let e = c.write_entry.new.lane in
    let m = c.args.message.now in
    λ row t next st. writes-on x e c.args.line row c.args.written t m c.in-Store.entry
    (ap (λ (y : LaneState). y.lane) c.in_ok-write_entry-in-Store.ensures.after) (ap (λ (y : LaneState). y.rules) c.in_ok-write_entry-in-Store.ensures.after)
    c.in_ok-write_entry-in-Store.ensures.grows c.if-written.false c.in-Store.is next st
    (c.operations_write.ensures.writes _ _ _ _ _ _ _ c.requires.keeps.keeps _ _ _ _ _ _ st.stands.knows c.in-Store.entry
    (unwritten x.lane x.rules (journal_of x) c.args.line row c.args.written t st c.if-written.false)
    (c.operations_write.ensures.due t m c.in-Store.entry next c.in-Store.is))

pub returns-in-Ask-2-clause-writes : goal.returns-in-Ask-2-clause-writes
returns-in-Ask-2-clause-writes c = λ row t next st. (st, λ from has. Still)

pub returns-in_ok-write_entry-in-Store-clause-carried : goal.returns-in_ok-write_entry-in-Store-clause-carried
returns-in_ok-write_entry-in-Store-clause-carried c =
    let x = c.args.lane.now in
    let e = c.write_entry.new.lane in
    carried-more x e (Wrote c.args.line c.in-Store.entry) tt c.in_ok-write_entry-in-Store.ensures.grows (ap (λ (y : LaneState). y.last) c.in_ok-write_entry-in-Store.ensures.after) (ap (λ (y : LaneState). y.late.late) c.in_ok-write_entry-in-Store.ensures.after)

pub returns-in_ok-write_entry-in-Store-clause-quiet : goal.returns-in_ok-write_entry-in-Store-clause-quiet
returns-in_ok-write_entry-in-Store-clause-quiet c = rw c.in_ok-write_entry-in-Store.ensures.grows (quiet-wrote (journal_of c.args.lane.now) c.args.line c.in-Store.entry)

pub returns-in_err-write_entry-in-Store-clause-quiet : goal.returns-in_err-write_entry-in-Store-clause-quiet
returns-in_err-write_entry-in-Store-clause-quiet c = quiet-same (journal_of c.args.lane.now) (journal_of c.write_entry.new.lane) c.in_err-write_entry-in-Store.ensures.err
