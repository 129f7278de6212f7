use Rattle.std.proofs.Common.{◌≡◌, ◌∙◌, ◌+◌, ◌∷◌, ◌<◌, inl, ℕ, List, Option, Some, ap, refl, sym, subst}
use Rattle.bucket_ids.specs.Buckets.{Low}
use Rattle.messages.specs.declared.message.Message.{Message}
use Rattle.merge_rounds.specs.Rounds.{RoundState, IsNext, after_send}
use Rattle.lane_journals.specs.KeptJournals.{IsLegal}
use Rattle.lane_journals.specs.declared.event.LaneEvent.{LaneEvent}
use Rattle.lane_keeping.specs.Replaying.{sending}
use Rattle.lane_keeping.specs.LaneKeeping.{setting_of}
use Rattle.distributor_part.specs.declared.rules.Rules.{Rules}
use Rattle.lane_states.specs.declared.lane_state.LaneState.{LaneState}
use Rattle.lane_states.specs.LaneStates.{journal_of}
use Rattle.lane_states.specs.Growing.{IsSettled}
use Rattle.lane_keeping.specs.RoundKeeping.{KnowsRound, IsAwaited}
use Rattle.round_keeping.specs.RoundRuns.{IsRunning, IsCutOff, left}
use Rattle.round_keeping.specs.RoundShortages.{wants_memory}
use Rattle.round_keeping.proofs.Running.{no-ask, running-sent, goes-on}
use Rattle.round_keeping.proofs.RoundTelling.{next-small, cut-as, cut-sent, sent-less, sent-rest}
use Rattle.round_keeping.proofs.Runs.{runs-nothing}
use Rattle.proof_basics.proofs.Results.{on-err}
use Rattle.lane_states.proofs.NodeSpans.{on-same}
use Rattle.lane_states.proofs.TellingBack.{kept-back}
use Rattle.lane_rounds.proofs.LaneRuns.{runs-once}
use Rattle.lane_rounds.proofs.RoundExchanges.{told-goes, told-waits, told-left, sent-goes-on, runs-told, settled-told, runs-unsent}
use Rattle.lane_rounds.proofs.rounds.step_round.Goals as goal

pub returns-in_err-message-clause-on : goal.returns-in_err-message-clause-on
returns-in_err-message-clause-on g c = runs-nothing _ _ _ _ _ _ _

pub returns-in_default-clause-on : goal.returns-in_default-clause-on
returns-in_default-clause-on g c = runs-nothing _ _ _ _ _ _ _

pub returns-in_err-message-clause-cut : goal.returns-in_err-message-clause-cut
returns-in_err-message-clause-cut g c = on-err c.from_residual.result _ (cut-as _ _ c.args.run.now c.send.new.self c.requires.runs c.in_err-message.ensures.err)

pub returns-in_err-message-clause-took : goal.returns-in_err-message-clause-took
returns-in_err-message-clause-took g c = on-same c.args.lane.now c.args.lane.now refl (λ n. refl)

pub returns-in_default-clause-took : goal.returns-in_default-clause-took
returns-in_default-clause-took g c = on-same c.args.lane.now c.args.lane.now refl (λ n. refl)

pub returns-in_default-clause-minds : goal.returns-in_default-clause-minds
returns-in_default-clause-minds g c e had = record { read = had.read; applied = had.applied }

pub returns-in_err-message-clause-unsent : goal.returns-in_err-message-clause-unsent
returns-in_err-message-clause-unsent g c = on-err c.from_residual.result _ refl

-- ---- the message that comes next

pub exchange-requires-clause-may : goal.exchange-requires-clause-may
exchange-requires-clause-may g c =
    let k = c.requires.runs in
    let y = c.args.run.now in
    let m = c.in-Some.message in
    let keep = c.requires.keeps.keeps in
    let next : IsNext y.round (Some m) = subst (λ (o : Option Message). IsNext y.round o) c.in-Some.is c.in_ok-message.ensures.message in
    record {
      legal = c.rounds_send.ensures.legal _ _ _ _ _ _ _ keep _ _ y.round k.acting k.knows m next;
      brings = c.rounds_send.ensures.brings _ _ _ _ _ _ _ keep _ _ y.round k.acting k.knows m next;
      whole = c.rounds_send.ensures.whole _ _ _ _ _ _ _ keep _ _ y.round k.acting k.knows m next;
      asker = inl (no-ask (after_send y.round (Some m)) m (c.rounds_send.ensures.awaited _ _ _ _ _ _ _ keep _ _ y.round k.acting k.knows m next).is);
    }

pub returns-in_err-reply-clause-cut : goal.returns-in_err-reply-clause-cut
returns-in_err-reply-clause-cut g c =
    let x = c.args.lane.now in
    let y = c.args.run.now in
    let q = c.send.new.self in
    on-err c.from_residual-in_err-reply.result _ (subst (λ (J : List LaneEvent). IsCutOff x.lane J (record y { round = q })) (sym c.in_err-reply.ensures.stays.journal)
    (cut-sent _ _ y q c.in-Some.message c.requires.runs (subst (λ (o : Option Message). q ≡ after_send y.round o) c.in-Some.is c.in_ok-message.ensures.state)))

pub returns-in_err-reply-clause-on : goal.returns-in_err-reply-clause-on
returns-in_err-reply-clause-on g c = runs-unsent c.args.lane.now.lane c.args.run.now.distributor c.args.run.now.state c.args.lane.now c.exchange.new.self _ _ c.in_err-reply.ensures.stays c.in_err-reply.ensures.given

pub returns-in_err-reply-clause-same : goal.returns-in_err-reply-clause-same
returns-in_err-reply-clause-same g c = sent-goes-on c.args.run.now c.send.new.self c.in-Some.message (subst (λ (o : Option Message). c.send.new.self ≡ after_send c.args.run.now.round o) c.in-Some.is c.in_ok-message.ensures.state)

pub returns-in_err-reply-clause-unsent : goal.returns-in_err-reply-clause-unsent
returns-in_err-reply-clause-unsent g c = on-err c.from_residual-in_err-reply.result _ c.in_err-reply.ensures.stays.last

pub returns-clause-keeps : goal.returns-clause-keeps
returns-clause-keeps g c =
    let k = c.requires.runs in
    let y = c.args.run.now in
    let m = c.in-Some.message in
    let next : IsNext y.round (Some m) = subst (λ (o : Option Message). IsNext y.round o) c.in-Some.is c.in_ok-message.ensures.message in
    kept-back c.args.lane.now c.exchange.new.self c.exchange.ensures.after m c.in_ok-reply.reply (no-ask (after_send y.round (Some m)) m (c.rounds_send.ensures.awaited _ _ _ _ _ _ _ c.requires.keeps.keeps _ _ y.round k.acting k.knows m next).is)
    c.in_ok-reply.ensures.keeps

-- ---- what came back

pub tell_back-requires-clause-awaited : goal.tell_back-requires-clause-awaited
tell_back-requires-clause-awaited g c =
    let k = c.requires.runs in
    let y = c.args.run.now in
    let m = c.in-Some.message in
    let next : IsNext y.round (Some m) = subst (λ (o : Option Message). IsNext y.round o) c.in-Some.is c.in_ok-message.ensures.message in
    let state : c.send.new.self ≡ after_send y.round (Some m) = subst (λ (o : Option Message). c.send.new.self ≡ after_send y.round o) c.in-Some.is c.in_ok-message.ensures.state in
    ap (λ (r : RoundState). r.awaited) state ∙ (c.rounds_send.ensures.awaited _ _ _ _ _ _ _ c.requires.keeps.keeps _ _ y.round k.acting k.knows m next).awaited

pub tell_back-requires-clause-small : goal.tell_back-requires-clause-small
tell_back-requires-clause-small g c =
    let y = c.args.run.now in
    next-small y.round c.in-Some.message (subst (λ (o : Option Message). IsNext y.round o) c.in-Some.is c.in_ok-message.ensures.message)

pub returns-clause-runs : goal.returns-clause-runs
returns-clause-runs g c =
    let x = c.args.lane.now in
    let e = c.exchange.new.self in
    let k = c.requires.runs in
    let y = c.args.run.now in
    let q = c.send.new.self in
    let z = c.tell_back.new.run in
    let m = c.in-Some.message in
    let S = sending (x.last + 1) m ∷ journal_of x in
    let keep = c.requires.keeps.keeps in
    let h = c.in_ok-reply.ensures.exchanged in
    let next : IsNext y.round (Some m) = subst (λ (o : Option Message). IsNext y.round o) c.in-Some.is c.in_ok-message.ensures.message in
    let state : q ≡ after_send y.round (Some m) = subst (λ (o : Option Message). q ≡ after_send y.round o) c.in-Some.is c.in_ok-message.ensures.state in
    let runs : IsRunning x.lane S (record y { round = q }) = running-sent keep y k (x.last + 1) m q (ap (λ (r : RoundState). r.row) (sent-rest y.round q m state))
    (subst (λ (r : RoundState). KnowsRound x.lane S y.distributor y.state r) (sym state) (c.rounds_send.ensures.knows _ _ _ _ _ _ _ keep _ _ y.round k.acting k.knows m next)) in
    let wait : IsAwaited S q (x.last + 1) m = subst (λ (r : RoundState). IsAwaited S r (x.last + 1) m) (sym state) (c.rounds_send.ensures.awaited _ _ _ _ _ _ _ keep _ _ y.round k.acting k.knows m next) in
    let legal : IsLegal (setting_of x.lane x.rules) (journal_of e) = subst (λ (l : Low). IsLegal (setting_of l x.rules) (journal_of e)) (ap (λ (w : LaneState). w.lane) c.exchange.ensures.after)
    (subst (λ (r : Rules). IsLegal (setting_of e.lane r) (journal_of e)) (ap (λ (w : LaneState). w.rules) c.exchange.ensures.after) (returns-clause-keeps g c).keeps.legal) in
    runs-told h.sent.keeps (record y { round = q }) z runs (x.last + 1) m wait
    (λ r now on taken. (c.events_are_kept.ensures.taken _ _ _ _ _ _ _ h.sent.keeps (x.last + 1) m r now h.sent.just.flight on taken).legal)
    (λ r now on taken zero. c.rounds_hear.ensures.read _ _ _ _ _ _ _ h.sent.keeps _ _ _ runs.acting runs.knows (x.last + 1) m r now wait on taken zero)
    (λ r now after on taken more a. c.rounds_hear.ensures.applied _ _ _ _ _ _ _ h.sent.keeps _ _ _ runs.acting runs.knows (x.last + 1) m r now after wait on taken more a)
    (c.rounds_hear.ensures.unread _ _ _ _ _ _ _ h.sent.keeps _ _ _ runs.acting runs.knows m.receiver)
    (λ after a. c.rounds_hear.ensures.unapplied _ _ _ _ _ _ _ h.sent.keeps _ _ _ runs.acting runs.knows m.receiver after a)
    c.in_ok-reply.reply (journal_of e) legal h.brought c.tell_back.ensures

pub returns-clause-told : goal.returns-clause-told
returns-clause-told g c = told-waits _ _ _ c.in_ok-reply.reply c.tell_back.ensures

pub returns-clause-less : goal.returns-clause-less
returns-clause-less g c some =
    let y = c.args.run.now in
    let q = c.send.new.self in
    let m = c.in-Some.message in
    subst (λ (n : ℕ). n < left y.round) (sym (told-left (record y { round = q }) c.tell_back.new.run m.receiver c.in_ok-reply.reply c.tell_back.ensures))
    (sent-less y.round q m (subst (λ (o : Option Message). IsNext y.round o) c.in-Some.is c.in_ok-message.ensures.message) (subst (λ (o : Option Message). q ≡ after_send y.round o) c.in-Some.is c.in_ok-message.ensures.state))

pub returns-clause-same : goal.returns-clause-same
returns-clause-same g c =
    let y = c.args.run.now in
    let q = c.send.new.self in
    let m = c.in-Some.message in
    goes-on y (record y { round = q }) c.tell_back.new.run (sent-goes-on y q m (subst (λ (o : Option Message). q ≡ after_send y.round o) c.in-Some.is c.in_ok-message.ensures.state))
    (told-goes (record y { round = q }) c.tell_back.new.run m.receiver c.in_ok-reply.reply c.tell_back.ensures)

pub returns-clause-on : goal.returns-clause-on
returns-clause-on g c =
    let x = c.args.lane.now in
    let y = c.args.run.now in
    let m = c.in-Some.message in
    runs-once x.lane y.distributor y.state x c.exchange.new.self m _ _ y.round c.requires.runs.knows (subst (λ (o : Option Message). IsNext y.round o) c.in-Some.is c.in_ok-message.ensures.message) c.in_ok-reply.ensures.exchanged.went

pub returns-clause-settled : goal.returns-clause-settled
returns-clause-settled g c some had =
    let x = c.args.lane.now in
    let e = c.exchange.new.self in
    let k = c.requires.runs in
    let y = c.args.run.now in
    let q = c.send.new.self in
    let z = c.tell_back.new.run in
    let m = c.in-Some.message in
    let h = c.in_ok-reply.ensures.exchanged in
    subst (λ (n : ℕ). IsSettled n (journal_of e) (wants_memory z)) (sym h.went.next)
    (settled-told (x.last + 1) (sending (x.last + 1) m ∷ journal_of x) x.nodes.items m h.sent.just (record y { round = q }) z c.in_ok-reply.reply (journal_of e) h.brought c.tell_back.ensures (record { read = had.read; applied = had.applied }))

pub returns-clause-next : goal.returns-clause-next
returns-clause-next g c some = c.in_ok-reply.ensures.exchanged.went.next
