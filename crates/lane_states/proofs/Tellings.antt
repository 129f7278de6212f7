-- A message that says something of a row comes back, and that it did stays known.
use Rattle.std.proofs.Common.{◌≡◌, ◌+◌, ℕ, Bool, true, false, cond, eqb, eq-eqb, List, ◌∷◌, Option, Some, None, IfSome, IfNone, refl, ap, ◌∙◌}
use Rattle.carriers.specs.declared.fate.Fate.{Fate}
use Rattle.messages.specs.Noting.{noted_reply}
use Rattle.messages.specs.declared.body.Body.{Body}
use Rattle.messages.specs.declared.body.Body.TheVariants as body
use Rattle.messages.specs.declared.message.Message.{Message}
use Rattle.messages.specs.declared.reply.Reply.{Reply}
use Rattle.lane_journals.specs.Events as plain
use Rattle.lane_journals.specs.Readers.{or_else, only_if, sent, first_reply, returned}
use Rattle.lane_journals.specs.Meanings.{history, meaning, meaning_reply}
use Rattle.lane_journals.specs.declared.event.LaneEvent.{LaneEvent}
use Rattle.lane_journals.specs.declared.event.LaneEvent.TheVariants.{Delivered, Returned}
use Rattle.lane_journals.proofs.Basics.{sent-stays, first_reply-stays, returned-stays}
use Rattle.lane_keeping.specs.Replaying.{sending, delivered}
use Rattle.lane_carriage.specs.Waits.{numbers}
use Rattle.lane_keeping.specs.Asking.{IsJustSent}
use Rattle.lane_keeping.specs.Laws.{IsNoAsk}
use Rattle.lane_states.specs.declared.lane_state.LaneState.{LaneState}
use Rattle.lane_carriage.specs.Carrying.{met_at}
use Rattle.lane_states.specs.LaneStates.{journal_of, Went}
use Rattle.lane_states.specs.Tellings.{IsRowBody, IsAnsweredBy, IsFirstReply}
use Rattle.lane_states.specs.Exchanging.{Exchanged}
use Rattle.lane_states.proofs.Exchanging.{over-deliveries}
use Rattle.lane_carriage.proofs.Staying.{IsOfMessage, stays-delivered, stays-dealt}

pub row-no-ask : (b : Body) → IsRowBody b → IsNoAsk b
row-no-ask body.Ask h = absurd h
row-no-ask (body.Read b only) h = absurd h
row-no-ask (body.Store e) h = absurd h
row-no-ask (body.Apply b es) h = absurd h
row-no-ask (body.Delete b s) h = tt
row-no-ask (body.Split b) h = tt
row-no-ask (body.Join b) h = tt
row-no-ask (body.Ready b) h = tt
row-no-ask (body.Activate b) h = tt

-- ---- it comes back

came-back : (J : List LaneEvent) (number : ℕ) (m : Message) (r : Reply) → IsJustSent J number m → IsAnsweredBy (Returned number ∷ delivered number r ∷ J) m.version m.receiver m.body r
came-back J number m r just = record {
  number = number;
  message = (just.flight).sending;
  was_sent = was;
  version = (just.flight).version_is;
  receiver = (just.flight).receiver_is;
  body_is = (just.flight).body_is;
  before = J;
  replied = first;
  back = back;
}
  where
    was : sent number (history (Returned number ∷ delivered number r ∷ J)) ≡ Some (just.flight).sending
    was = (just.flight).was_sent

    back : returned number (history (Returned number ∷ delivered number r ∷ J)) ≡ true
    back = ap (λ (t : Bool). cond t true (returned number (history J))) (eq-eqb number number refl)

    first : first_reply number (history (Returned number ∷ delivered number r ∷ J)) ≡ Some (meaning_reply J (noted_reply r))
    first = ap (λ (o : Option plain.Reply). or_else o (only_if (eqb number number) (meaning_reply J (noted_reply r)))) just.unreplied
        ∙ ap (λ (t : Bool). only_if t (meaning_reply J (noted_reply r))) (eq-eqb number number refl)

-- it stays known
came-stays : (v node : ℕ) (b : Body) (r : Reply) (e : LaneEvent) (J : List LaneEvent) → IsAnsweredBy J v node b r → IsAnsweredBy (e ∷ J) v node b r
came-stays v node b r e J h = record {
  number = h.number;
  message = h.message;
  was_sent = sent-stays h.number (history J) h.message (meaning J e) h.was_sent;
  version = h.version;
  receiver = h.receiver;
  body_is = h.body_is;
  before = h.before;
  replied = first_reply-stays h.number (history J) (meaning_reply h.before (noted_reply r)) (meaning J e) h.replied;
  back = returned-stays h.number (history J) (meaning J e) h.back;
}

-- ---- what stays over the events of messages stays over all events of one

pub stays-went : (P : List LaneEvent → Type 0) → ((e : LaneEvent) (J : List LaneEvent) → IsOfMessage e → P J → P (e ∷ J)) → (c e : LaneState) (m : Message) (given now : List Fate) → Went c e m given now → P (journal_of c) → P (journal_of e)
stays-went P stays c e m given now w p =
    stays-delivered P stays (numbers (w.late).taken) w.between (journal_of e) (w.late).delivered
    (stays-dealt P stays (met_at (journal_of c) m w.fate) (c.last + 1) (sending (c.last + 1) m ∷ journal_of c) w.between w.dealt (stays (sending (c.last + 1) m) (journal_of c) tt p))

-- ---- which reply it is

first-back : (J : List LaneEvent) (number : ℕ) (m : Message) (r : Reply) → IsJustSent J number m → IsFirstReply (Returned number ∷ delivered number r ∷ J) number r
first-back J number m r just = record {
  before = J;
  is = ap (λ (o : Option plain.Reply). or_else o (only_if (eqb number number) (meaning_reply J (noted_reply r)))) just.unreplied
      ∙ ap (λ (t : Bool). only_if t (meaning_reply J (noted_reply r))) (eq-eqb number number refl);
}

first-stays : (number : ℕ) (r : Reply) (e : LaneEvent) (J : List LaneEvent) → IsFirstReply J number r → IsFirstReply (e ∷ J) number r
first-stays number r e J h = record { before = h.before; is = first_reply-stays number (history J) (meaning_reply h.before (noted_reply r)) (meaning J e) h.is }

-- ---- an exchange

module _ (c e : LaneState) (m : Message) (given now : List Fate) where
  -- its reply came, or not
  pub answered-by : (o : Option Reply) → Exchanged c e m given now o → IfSome o (IsAnsweredBy (journal_of e) m.version m.receiver m.body)
  answered-by None h = tt
  answered-by (Some r) h = over-deliveries (λ (X : List LaneEvent). IsAnsweredBy X m.version m.receiver m.body r) (λ n y X x. came-stays m.version m.receiver m.body r (Delivered n y) X x) _ (journal_of e) h.brought.delivers
      (came-back (sending (c.last + 1) m ∷ journal_of c) (c.last + 1) m r h.sent.just)

  pub first-by : (o : Option Reply) → Exchanged c e m given now o → IfSome o (IsFirstReply (journal_of e) (c.last + 1))
  first-by None h = tt
  first-by (Some r) h = over-deliveries (λ (X : List LaneEvent). IsFirstReply X (c.last + 1) r) (λ n y X x. first-stays (c.last + 1) r (Delivered n y) X x) _ (journal_of e) h.brought.delivers
      (first-back (sending (c.last + 1) m ∷ journal_of c) (c.last + 1) m r h.sent.just)

  pub silent-by : (o : Option Reply) → Exchanged c e m given now o → IfNone o (returned (c.last + 1) (history (journal_of e)) ≡ false)
  silent-by None h = over-deliveries (λ (X : List LaneEvent). returned (c.last + 1) (history X) ≡ false) (λ n y X x. x) (sending (c.last + 1) m ∷ journal_of c) (journal_of e) h.brought h.sent.just.unreturned
  silent-by (Some r) h = tt
