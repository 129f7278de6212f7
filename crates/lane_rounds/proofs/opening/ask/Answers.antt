use Rattle.std.proofs.Common.{rules, ◌≡◌, ◌<◌, ◌+◌, [], ◌∷◌, inr, length, Some, refl, sym, subst}
use Rattle.messages.specs.declared.body.Body.{Body}
use Rattle.distributor_part.specs.Parts.{Part}
use Rattle.lane_journals.specs.Meanings.{entry_at}
use Rattle.lane_keeping.specs.Flights.{Brings, IsWhole}
use Rattle.lane_keeping.specs.Replaying.{sending}
use Rattle.lane_keeping.specs.LaneKeeping.{part_in}
use Rattle.lane_keeping.proofs.Parts.{part-others}
use Rattle.lane_states.specs.declared.lane_state.LaneState.{LaneState}
use Rattle.lane_states.specs.LaneStates.{journal_of}
use Rattle.lane_states.proofs.Giving.{gives_same}
use Rattle.lane_states.proofs.Places.{part-at}
use Rattle.lane_rounds.proofs.AskExchanges.{settled-came, heard-came, others-came, kept-came, went-told}
use Rattle.lane_rounds.proofs.Telling.{awaited-at}
use Rattle.lane_rounds.proofs.opening.ask.Goals as goal

pub exchange-requires-clause-may : goal.exchange-requires-clause-may
exchange-requires-clause-may g c =
    let x = c.args.lane.now in
    let d = c.args.distributor in
    let m = c.args.message in
    let a = c.requires.asks in
    let within : d < length x.parts.items = search rules in
    record {
      legal = (c.asks_are_kept.ensures.sent _ _ _ _ _ _ _ c.requires.keeps.keeps d m a).legal;
      brings = subst (λ (b : Body). Brings (λ t. entry_at t (journal_of x)) b) (sym a.body_is) tt;
      whole = subst (λ (b : Body). IsWhole b) (sym a.body_is) (record { bucket = tt; inside = tt });
      asker = inr (record { distributor = d; asks = a; there = within; small = c.requires.small });
    }

pub take_reply-requires : goal.take_reply-requires
take_reply-requires g c =
    let x = c.args.lane.now in
    let e = c.exchange.new.self in
    let d = c.args.distributor in
    let p : Part = c.index_mut.result.now in
    let here : d < length e.parts.items = search rules in
    awaited-at e.lane e.rules e.parts.items d c.args.message.receiver p (part-at e.lane e.rules e.parts.items d p here (rw c.from.ensures at c.index_mut.ensures.value))
    (subst (λ (z : LaneState). (part_in z.lane z.rules z.parts.items d).awaited ≡ Some c.args.message.receiver) (sym c.exchange.ensures.after) c.requires.awaited)

pub returns-clause-keeps : goal.returns-clause-keeps
returns-clause-keeps g c =
    let x = c.args.lane.now in
    let e = c.exchange.new.self in
    let d = c.args.distributor in
    let m = c.args.message in
    let p : Part = c.index_mut.result.now in
    let q : Part = c.take_reply.new.self in
    let here : d < length e.parts.items = search rules in
    let is : part_in e.lane e.rules e.parts.items d ≡ p = part-at e.lane e.rules e.parts.items d p here (rw c.from.ensures at c.index_mut.ensures.value) in
    rw c.from.ensures
    (kept-came x e m d p q here is c.exchange.ensures.after c.requires.asks
    (λ r told. c.parts_are_told.ensures.told p q m.receiver r told) (λ told. c.parts_are_told.ensures.silent p q m.receiver told)
    (λ keep same. c.parts_are_told.ensures.known _ _ _ _ _ _ _ keep d _ same (part-others e.lane e.rules e.parts.items d q))
    c.in_ok-reply.reply c.in_ok-reply.ensures.keeps c.take_reply.ensures)

pub returns-clause-told : goal.returns-clause-told
returns-clause-told g c =
    let x = c.args.lane.now in
    let e = c.exchange.new.self in
    let d = c.args.distributor in
    let p : Part = c.index_mut.result.now in
    let here : d < length e.parts.items = search rules in
    let is : part_in e.lane e.rules e.parts.items d ≡ p = part-at e.lane e.rules e.parts.items d p here (rw c.from.ensures at c.index_mut.ensures.value) in
    rw c.from.ensures (heard-came x e c.args.message d p c.take_reply.new.self here is c.exchange.ensures.after c.in_ok-reply.reply c.take_reply.ensures)

pub returns-clause-others : goal.returns-clause-others
returns-clause-others g c =
    let x = c.args.lane.now in
    let e = c.exchange.new.self in
    let d = c.args.distributor in
    let p : Part = c.index_mut.result.now in
    let here : d < length e.parts.items = search rules in
    let is : part_in e.lane e.rules e.parts.items d ≡ p = part-at e.lane e.rules e.parts.items d p here (rw c.from.ensures at c.index_mut.ensures.value) in
    rw c.from.ensures (others-came x e c.args.message d p c.take_reply.new.self here is c.exchange.ensures.after)

pub returns-clause-went : goal.returns-clause-went
returns-clause-went g c = went-told c.args.lane.now c.exchange.new.self _ c.args.message _ _ refl refl refl c.in_ok-reply.ensures.exchanged.went

pub returns-clause-gives : goal.returns-clause-gives
returns-clause-gives g c = let w = c.in_ok-reply.ensures.exchanged.went in (w.fate ∷ [], w.fates)

pub returns-in_err-reply-clause-gives : goal.returns-in_err-reply-clause-gives
returns-in_err-reply-clause-gives g c = gives_same _ _ c.in_err-reply.ensures.given

pub returns-clause-settled : goal.returns-clause-settled
returns-clause-settled g c =
    let x = c.args.lane.now in
    let m = c.args.message in
    let h = c.in_ok-reply.ensures.exchanged in
    rw c.is_short-short.ensures (settled-came (x.last + 1) (sending (x.last + 1) m ∷ journal_of x) x.nodes.items m h.sent.just c.in_ok-reply.reply (journal_of c.exchange.new.self) h.brought)
