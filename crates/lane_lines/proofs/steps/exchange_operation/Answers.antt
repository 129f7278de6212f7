use Rattle.std.proofs.Common.{◌≡◌, ◌+◌, ◌∷◌, inl, ap, sym, subst, arith}
use Rattle.bucket_ids.specs.Buckets.{Low}
use Rattle.lane_keeping.specs.Replaying.{sending}
use Rattle.lane_states.specs.declared.lane_state.LaneState.{LaneState}
use Rattle.lane_states.specs.LaneStates.{journal_of}
use Rattle.lane_states.proofs.TellingBack.{kept-back}
use Rattle.operation_keeping.specs.Wants.{Still, Longer}
use Rattle.lane_lines.specs.Steps.{GoesIn}
use Rattle.lane_lines.proofs.Standing.{awaiting-sent, standing-told}
use Rattle.lane_lines.proofs.RunningSteps.{next-asked, next-no-ask, has-written, wants-sent, going-of, going-sent, run-brought, unsent-since, going-brought, quiet-brought, quiet-sent, quiet-same, told-in}
use Rattle.lane_lines.proofs.Entries.{adds-none, adds-went}
use Rattle.lane_lines.proofs.steps.exchange_operation.Goals as goal

pub exchange-requires-clause-may : goal.exchange-requires-clause-may
exchange-requires-clause-may g c =
    let x = c.args.lane.now in
    let s = c.requires.sends in
    let w = s.to_write in
    let may = c.operations_send.ensures _ _ _ _ _ _ _ c.requires.keeps.keeps _ _ _ _ _ _ w.stands.stands.knows c.args.message w.stands.acting w.next
    (has-written x.lane x.rules (journal_of x) s.line w.row s.written w.standing c.args.message w.stands w.next s.ready) in
    record { legal = may.legal; brings = may.brings; whole = may.whole; asker = inl (next-no-ask w.standing c.args.message w.next) }

pub take_reply-requires : goal.take_reply-requires
take_reply-requires g c = next-asked c.args.machine.now c.args.message c.requires.next

pub returns-clause-keeps : goal.returns-clause-keeps
returns-clause-keeps g c = kept-back c.args.lane.now c.exchange.new.self c.exchange.ensures.after c.args.message c.in_ok-reply.reply (next-no-ask c.args.machine.now c.args.message c.requires.next) c.in_ok-reply.ensures.keeps

pub returns-in_err-reply-clause-quiet : goal.returns-in_err-reply-clause-quiet
returns-in_err-reply-clause-quiet g c = quiet-same (journal_of c.args.lane.now) (journal_of c.exchange.new.self) c.in_err-reply.ensures.stays.journal

pub returns-in_err-reply-clause-entries : goal.returns-in_err-reply-clause-entries
returns-in_err-reply-clause-entries g c = adds-none (journal_of c.args.lane.now) (journal_of c.exchange.new.self) c.in_err-reply.ensures.stays.journal

pub returns-clause-quiet : goal.returns-clause-quiet
returns-clause-quiet g c =
    let x = c.args.lane.now in
    let m = c.args.message in
    quiet-brought (x.last + 1) (sending (x.last + 1) m ∷ journal_of x) x.nodes.items m c.in_ok-reply.reply (journal_of c.exchange.new.self) c.in_ok-reply.ensures.exchanged.brought (journal_of x) (quiet-sent (journal_of x) (x.last + 1) m)

pub returns-clause-entries : goal.returns-clause-entries
returns-clause-entries g c = adds-went c.args.lane.now c.exchange.new.self c.args.message _ _ c.in_ok-reply.ensures.exchanged.went

pub returns-clause-runs : goal.returns-clause-runs
returns-clause-runs g c =
    let x = c.args.lane.now in
    let e = c.exchange.new.self in
    let m = c.args.message in
    let t = c.args.machine.now in
    let back = c.in_ok-reply.ensures.exchanged.brought in
    let lane : e.lane ≡ x.lane = ap (λ (z : LaneState). z.lane) c.exchange.ensures.after in
    λ line row written ready st. (
      (λ from has. run-brought (x.last + 1) (sending (x.last + 1) m ∷ journal_of x) x.nodes.items m c.in_ok-reply.reply (journal_of e) back x.lane x.rules line t.plan.operation from (journal_of x)
          (unsent-since from (journal_of x) x.last (x.last + 1) has c.requires.keeps.keeps.numbered (omega arith))
          (Longer (sending (x.last + 1) m) (journal_of x) Still (wants-sent x.lane x.rules (journal_of x) line row written t m st c.requires.next from (x.last + 1) (has-written x.lane x.rules (journal_of x) line row written t m st c.requires.next ready)))),
      subst (λ (l : Low). GoesIn (record e { lane = l }) line t.plan) (sym lane)
          (going-brought (x.last + 1) (sending (x.last + 1) m ∷ journal_of x) x.nodes.items m c.in_ok-reply.reply (journal_of e) back x.lane line t.plan
          (going-sent x.lane line t.plan (journal_of x) (x.last + 1) m (going-of x.lane x.rules (journal_of x) line row written t st))),
    )

pub returns-clause-stands : goal.returns-clause-stands
returns-clause-stands g c =
    let x = c.args.lane.now in
    let e = c.exchange.new.self in
    let m = c.args.message in
    let t = c.args.machine.now in
    let z = c.take_reply.new.self in
    let h = c.in_ok-reply.ensures.exchanged in
    λ line row written ready st.
    let w = awaiting-sent x.lane x.rules (journal_of x) line row written t st x.last m
    (c.operations_send.ensures _ _ _ _ _ _ _ c.requires.keeps.keeps _ _ _ _ _ _ st.stands.knows m st.acting c.requires.next (has-written x.lane x.rules (journal_of x) line row written t m st c.requires.next ready)) in
    told-in x e line row written z (ap (λ (y : LaneState). y.lane) c.exchange.ensures.after) (ap (λ (y : LaneState). y.rules) c.exchange.ensures.after) (returns-clause-keeps g c).keeps.legal
    (standing-told x.lane x.rules (sending (x.last + 1) m ∷ journal_of x) x.nodes.items line row written t z (x.last + 1) m w c.take_reply.ensures.plan
    (λ told. c.operations_hear.ensures.silent _ _ _ _ _ _ _ h.sent.keeps _ _ _ _ _ _ _ _ w.asked z told)
    (λ now r runs taken told. c.operations_hear.ensures.told _ _ _ _ _ _ _ h.sent.keeps _ _ _ _ _ _ _ _ w.asked now r z h.sent.just runs taken told)
    c.in_ok-reply.reply (journal_of e) c.take_reply.ensures h.brought)

pub returns-clause-told : goal.returns-clause-told
returns-clause-told g c = (c.in_ok-reply.reply, c.take_reply.ensures)

pub returns-clause-one : goal.returns-clause-one
returns-clause-one g c = let w = c.in_ok-reply.ensures.exchanged.went in (w.fate, w.fates)
