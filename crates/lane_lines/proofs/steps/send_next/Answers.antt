use Rattle.std.proofs.Common.{◌≡◌, ◌∙◌, inl, inr, refl, ap, sym, subst}
use Rattle.op_machine.specs.declared.machine.Standing.{Standing}
use Rattle.op_machine.specs.Outcomes.{Asks}
use Rattle.op_machine.specs.Standings.{next_at}
use Rattle.lane_states.specs.declared.lane_state.LaneState.{LaneState}
use Rattle.lane_states.specs.LaneStates.{journal_of}
use Rattle.operation_keeping.specs.Wants.{Still}
use Rattle.lane_lines.specs.Steps.{SendsIn, SentIn, IsStandingTold}
use Rattle.lane_lines.proofs.MessageKeys.{message-key}
use Rattle.lane_lines.proofs.RunningSteps.{asks-of, run-same, going-of, wrote-in, sent-in, quiet-on}
use Rattle.stamps.specs.Places.{place_of}
use Rattle.lane_lines.proofs.Entries.{finds-grown}
use Rattle.lane_lines.proofs.steps.send_next.Goals as goal

pub returns-in_err-message-clause-run : goal.returns-in_err-message-clause-run
returns-in_err-message-clause-run g c = λ from has. Still

pub returns-in_default-clause-run : goal.returns-in_default-clause-run
returns-in_default-clause-run g c = λ from has. Still

pub write_wanted-requires-clause-wants : goal.write_wanted-requires-clause-wants
write_wanted-requires-clause-wants g c = record {
  standing = c.args.machine.now;
  row = c.requires.stands.row;
  stands = c.requires.stands.stands;
  next = asks-of (next_at c.args.machine.now) c.in-Some.message (sym c.in-Some.is ∙ c.in_ok-message.ensures.message);
}

pub returns-in_err-ready-clause-run : goal.returns-in_err-ready-clause-run
returns-in_err-ready-clause-run g c = run-same c.args.lane.now c.write_wanted.new.lane c.args.line c.args.machine.now c.in_err-ready.ensures.err

pub exchange_operation-requires-clause-next : goal.exchange_operation-requires-clause-next
exchange_operation-requires-clause-next g c = subst (λ (s : Standing). next_at s ≡ Asks c.in-Some.message) (sym c.in_ok-message.ensures.kept)
    (asks-of (next_at c.args.machine.now) c.in-Some.message (sym c.in-Some.is ∙ c.in_ok-message.ensures.message))

pub exchange_operation-requires-clause-key : goal.exchange_operation-requires-clause-key
exchange_operation-requires-clause-key g c = message-key c.args.machine.now c.in-Some.message c.args.key (asks-of (next_at c.args.machine.now) c.in-Some.message (sym c.in-Some.is ∙ c.in_ok-message.ensures.message)) c.requires.key

pub exchange_operation-requires-clause-sends : goal.exchange_operation-requires-clause-sends
exchange_operation-requires-clause-sends g c =
    let next = asks-of (next_at c.args.machine.now) c.in-Some.message (sym c.in-Some.is ∙ c.in_ok-message.ensures.message) in
    record {
      line = c.args.line;
      written = c.in_ok-ready.ready;
      to_write = record {
        standing = c.args.machine.now;
        row = c.requires.stands.row;
        stands = (c.in_ok-ready.ensures.writes c.requires.stands.row c.args.machine.now next c.requires.stands.stands).0;
        next = next;
      };
      ready = c.in_ok-ready.ensures.ready;
    }

pub returns-in_err-exchange_operation-clause-run : goal.returns-in_err-exchange_operation-clause-run
returns-in_err-exchange_operation-clause-run g c =
    let x = c.args.lane.now in
    let y = c.write_wanted.new.lane in
    let a = c.exchange_operation.new.lane in
    (wrote-in x y a c.args.line c.args.written.now c.in_ok-ready.ready c.in-Some.message c.args.machine.now
    (ap (λ (z : LaneState). z.lane) c.in_ok-ready.ensures.after) (ap (λ (z : LaneState). z.rules) c.in_ok-ready.ensures.after)
    (ap (λ (z : LaneState). z.lane) c.in_err-exchange_operation.ensures.after) (ap (λ (z : LaneState). z.rules) c.in_err-exchange_operation.ensures.after) c.in_err-exchange_operation.ensures.err
    c.in_ok-ready.ensures.writes (asks-of (next_at c.args.machine.now) c.in-Some.message (sym c.in-Some.is ∙ c.in_ok-message.ensures.message)) c.requires.stands.row c.requires.stands.stands).0

pub returns-in_err-exchange_operation-clause-going : goal.returns-in_err-exchange_operation-clause-going
returns-in_err-exchange_operation-clause-going g c =
    let x = c.args.lane.now in
    let y = c.write_wanted.new.lane in
    let a = c.exchange_operation.new.lane in
    going-of a.lane a.rules (journal_of a) c.args.line c.requires.stands.row c.in_ok-ready.ready c.args.machine.now
    (wrote-in x y a c.args.line c.args.written.now c.in_ok-ready.ready c.in-Some.message c.args.machine.now
    (ap (λ (z : LaneState). z.lane) c.in_ok-ready.ensures.after) (ap (λ (z : LaneState). z.rules) c.in_ok-ready.ensures.after)
    (ap (λ (z : LaneState). z.lane) c.in_err-exchange_operation.ensures.after) (ap (λ (z : LaneState). z.rules) c.in_err-exchange_operation.ensures.after) c.in_err-exchange_operation.ensures.err
    c.in_ok-ready.ensures.writes (asks-of (next_at c.args.machine.now) c.in-Some.message (sym c.in-Some.is ∙ c.in_ok-message.ensures.message)) c.requires.stands.row c.requires.stands.stands).1

pub returns-clause-run : goal.returns-clause-run
returns-clause-run g c =
    let x = c.args.lane.now in
    let y = c.write_wanted.new.lane in
    let e = c.exchange_operation.new.lane in
    let m = c.in-Some.message in
    let t = c.args.machine.now in
    let w = c.in_ok-ready.ensures.writes c.requires.stands.row t (asks-of (next_at t) m (sym c.in-Some.is ∙ c.in_ok-message.ensures.message)) c.requires.stands.stands in
    (sent-in x y e c.args.line c.in_ok-ready.ready m t c.requires.stands.row (ap (λ (z : LaneState). z.lane) c.in_ok-ready.ensures.after) (ap (λ (z : LaneState). z.rules) c.in_ok-ready.ensures.after)
    (subst (λ (s : Standing). SendsIn y e m s) c.in_ok-message.ensures.kept c.in_ok-exchange_operation.ensures.runs) c.in_ok-ready.ensures.ready (w.1, w.0)).0

pub returns-clause-going : goal.returns-clause-going
returns-clause-going g c =
    let x = c.args.lane.now in
    let y = c.write_wanted.new.lane in
    let e = c.exchange_operation.new.lane in
    let m = c.in-Some.message in
    let t = c.args.machine.now in
    let w = c.in_ok-ready.ensures.writes c.requires.stands.row t (asks-of (next_at t) m (sym c.in-Some.is ∙ c.in_ok-message.ensures.message)) c.requires.stands.stands in
    (sent-in x y e c.args.line c.in_ok-ready.ready m t c.requires.stands.row (ap (λ (z : LaneState). z.lane) c.in_ok-ready.ensures.after) (ap (λ (z : LaneState). z.rules) c.in_ok-ready.ensures.after)
    (subst (λ (s : Standing). SendsIn y e m s) c.in_ok-message.ensures.kept c.in_ok-exchange_operation.ensures.runs) c.in_ok-ready.ensures.ready (w.1, w.0)).1

pub returns-clause-stands : goal.returns-clause-stands
returns-clause-stands g c =
    let y = c.write_wanted.new.lane in
    let e = c.exchange_operation.new.lane in
    let m = c.in-Some.message in
    let t = c.args.machine.now in
    let next : next_at t ≡ Asks m = asks-of (next_at t) m (sym c.in-Some.is ∙ c.in_ok-message.ensures.message) in
    λ row st. (subst (λ (s : Standing). SentIn y e m s c.exchange_operation.new.machine) c.in_ok-message.ensures.kept c.in_ok-exchange_operation.ensures.stands) c.args.line row c.in_ok-ready.ready c.in_ok-ready.ensures.ready
    (c.in_ok-ready.ensures.writes row t next st).0

pub returns-clause-told : goal.returns-clause-told
returns-clause-told g c = λ yes. (
  c.in-Some.message,
  asks-of (next_at c.args.machine.now) c.in-Some.message (sym c.in-Some.is ∙ c.in_ok-message.ensures.message),
  subst (λ (s : Standing). IsStandingTold c.in-Some.message s c.exchange_operation.new.machine) c.in_ok-message.ensures.kept c.in_ok-exchange_operation.ensures.told,
)

pub returns-in_err-exchange_operation-clause-quiet : goal.returns-in_err-exchange_operation-clause-quiet
returns-in_err-exchange_operation-clause-quiet g c = quiet-on _ _ _ c.write_wanted.ensures.quiet c.exchange_operation.ensures.quiet

pub returns-clause-quiet : goal.returns-clause-quiet
returns-clause-quiet g c = quiet-on _ _ _ c.write_wanted.ensures.quiet c.exchange_operation.ensures.quiet

pub returns-in_err-exchange_operation-clause-finds : goal.returns-in_err-exchange_operation-clause-finds
returns-in_err-exchange_operation-clause-finds g c = finds-grown (place_of c.write_wanted.new.places) c.write_wanted.new.lane.journal.events.items c.exchange_operation.new.lane.journal.events.items c.exchange_operation.ensures.entries c.write_wanted.ensures.finds

pub returns-clause-finds : goal.returns-clause-finds
returns-clause-finds g c = finds-grown (place_of c.write_wanted.new.places) c.write_wanted.new.lane.journal.events.items c.exchange_operation.new.lane.journal.events.items c.exchange_operation.ensures.entries c.write_wanted.ensures.finds

pub returns-clause-one : goal.returns-clause-one
returns-clause-one g c = λ yes. c.in_ok-exchange_operation.ensures.one

pub returns-in_err-message-clause-few : goal.returns-in_err-message-clause-few
returns-in_err-message-clause-few g c = inl refl

pub returns-in_default-clause-few : goal.returns-in_default-clause-few
returns-in_default-clause-few g c = inl refl

pub returns-in_err-ready-clause-few : goal.returns-in_err-ready-clause-few
returns-in_err-ready-clause-few g c = inl refl

pub returns-in_err-exchange_operation-clause-few : goal.returns-in_err-exchange_operation-clause-few
returns-in_err-exchange_operation-clause-few g c = inl c.in_err-exchange_operation.ensures.given

pub returns-clause-few : goal.returns-clause-few
returns-clause-few g c = inr c.in_ok-exchange_operation.ensures.one
