-- What is known of an operation stays over events that aren't its own.
use Rattle.std.proofs.Common.{◌≡◌, ◌≢◌, ◌↔◌, ℕ, ◌<◌, Bool, true, List, ◌∷◌, Option, Some, None, inl, inr, refl, sym, ap, ◌∙◌, arith, eqb}
use Rattle.bucket_ids.specs.Buckets.{Low}
use Rattle.stamps.specs.declared.stamp.Stamp.{Stamp}
use Rattle.cluster_states.specs.declared.cluster_state.ClusterState.{ClusterState}
use Rattle.documents.specs.declared.entry.Entry.{Entry}
use Rattle.messages.specs.declared.message.Message.{Message}
use Rattle.messages.specs.declared.noted.NotedReply.{NotedReply}
use Rattle.distributor_part.specs.declared.rules.Rules.{Rules}
use Rattle.op_machine.specs.declared.machine.Standing.{Standing}
use Rattle.op_machine.specs.Outcomes.{Answers, answers_of}
use Rattle.lane_journals.specs.Events.{Content, Body, ReadDoc, Store, Event, Returned, Sent}
use Rattle.lane_journals.specs.Readers as readers
use Rattle.lane_journals.specs.Readers.{Journal, Beginning, or_else, only_if, sent, before_line, first_reply, answered_store}
use Rattle.lane_journals.specs.Facts.{ReadBack}
use Rattle.lane_journals.specs.Legal.{Legal}
use Rattle.lane_journals.specs.States.{state_of}
use Rattle.lane_journals.specs.Meanings.{history, meaning, meaning_reply}
use Rattle.lane_journals.specs.KeptJournals.{IsLegal}
use Rattle.lane_journals.specs.declared.event.LaneEvent.{LaneEvent}
use Rattle.lane_journals.specs.declared.event.LaneEvent.TheVariants as event
use Rattle.lane_journals.proofs.Basics.{sent-stays, sent-cases, SentNow}
use Rattle.lane_journals.proofs.Meant.{meant-legal}
use Rattle.lane_keeping.proofs.Flying.{entry-stays, flight-stays}
use Rattle.lane_keeping.specs.LaneKeeping.{setting_of}
use Rattle.lane_keeping.specs.Asking.{IsJustSent}
use Rattle.proof_basics.proofs.Numbers.{apart}
use Rattle.operation_keeping.specs.OperationKeeping.{beginning_of, WasRead, WasStored, IsReadOf, IsStoreOf, KnowsReads, KnowsEntry, KnowsStanding, KnowsAsked, KnowsStores}
use Rattle.operation_keeping.proofs.Messages.{short-on, short-off, back-stays, back-cases}

-- ---- messages that were sent

module _ (H : Journal) (e : Event) (awaited : Option ℕ) (line : ℕ) (b : Beginning) (n : ℕ) (same : before_line line (e ∷ H) ≡ before_line line H) where
  pub read-on : WasRead H awaited line b n → WasRead (e ∷ H) awaited line b n
  read-on w = record { number = w.number; other = w.other; message = w.message; was_sent = sent-stays w.number H w.message e w.was_sent; later = ap (λ (y : Journal). sent w.number y) same ∙ w.later; receiver = w.receiver; version = w.version; body = w.body }

  pub read-off : ((k : ℕ) → sent k (e ∷ H) ≡ sent k H) → WasRead (e ∷ H) awaited line b n → WasRead H awaited line b n
  read-off silent w = record { number = w.number; other = w.other; message = w.message; was_sent = sym (silent w.number) ∙ w.was_sent; later = sym (ap (λ (y : Journal). sent w.number y) same) ∙ w.later; receiver = w.receiver; version = w.version; body = w.body }

pub stored-on : (H : Journal) (e : Event) (awaited : Option ℕ) (b : Beginning) (n : ℕ) → WasStored H awaited b n → WasStored (e ∷ H) awaited b n
stored-on H e awaited b n w = record { stamp = w.stamp; stamped = w.stamped; number = w.number; other = w.other; message = w.message; was_sent = sent-stays w.number H w.message e w.was_sent; receiver = w.receiver; version = w.version; body = w.body }

pub stored-off : (H : Journal) (e : Event) (awaited : Option ℕ) (b : Beginning) (n : ℕ) → ((k : ℕ) → sent k (e ∷ H) ≡ sent k H) → WasStored (e ∷ H) awaited b n → WasStored H awaited b n
stored-off H e awaited b n silent w = record { stamp = w.stamp; stamped = w.stamped; number = w.number; other = w.other; message = w.message; was_sent = sym (silent w.number) ∙ w.was_sent; receiver = w.receiver; version = w.version; body = w.body }

-- a message that is sent with a greater number is awaited
module _ (H : Journal) (number v d to : ℕ) (x : Body) (greater : (k : ℕ) (m : readers.Message) → sent k H ≡ Some m → k < number) where
  abbrev e : Event
  e = Sent number v d to x

  below : (k : ℕ) (m : readers.Message) → sent k H ≡ Some m → k ≢ number
  below k m h same = let less = greater k m h in omega (arith, less, same)

  before : (k : ℕ) (m : readers.Message) → k ≢ number → sent k (e ∷ H) ≡ Some m → sent k H ≡ Some m
  before k m other h = elim (sent-cases k H e m h) [ inl old ↦ old | inr new ↦ absurd (now new) ]
    where
      now : SentNow k H e m → ⊥
      now new = let is = new.is in other (let same : number ≡ k = cc in sym same)

  pub read-sent : (line : ℕ) (b : Beginning) (n : ℕ) → WasRead H None line b n ↔ WasRead (e ∷ H) (Some number) line b n
  read-sent line b n = (
    λ w. record { number = w.number; other = below w.number w.message w.was_sent; message = w.message; was_sent = sent-stays w.number H w.message e w.was_sent; later = w.later; receiver = w.receiver; version = w.version; body = w.body },
    λ w. record { number = w.number; other = tt; message = w.message; was_sent = before w.number w.message w.other w.was_sent; later = w.later; receiver = w.receiver; version = w.version; body = w.body },
  )

  pub stored-sent : (b : Beginning) (n : ℕ) → WasStored H None b n ↔ WasStored (e ∷ H) (Some number) b n
  stored-sent b n = (
    λ w. record { stamp = w.stamp; stamped = w.stamped; number = w.number; other = below w.number w.message w.was_sent; message = w.message; was_sent = sent-stays w.number H w.message e w.was_sent; receiver = w.receiver; version = w.version; body = w.body },
    λ w. record { stamp = w.stamp; stamped = w.stamped; number = w.number; other = tt; message = w.message; was_sent = before w.number w.message w.other w.was_sent; receiver = w.receiver; version = w.version; body = w.body },
  )

pub through : {A B C : Type 0} → A ↔ B → B ↔ C → A ↔ C
through f g = (λ x. g.0 (f.0 x), λ z. f.1 (g.1 z))

-- ---- what was told of the Reads, where no answer comes back

-- an event at which no Read of the document comes back leaves what was told of the Reads
module _ (acks : ℕ) (P : ℕ → ℕ → Bool) (J : List LaneEvent) (e : LaneEvent) (legal : Legal acks P (history J)) (line : ℕ) (b : Beginning) (same : before_line line (history (e ∷ J)) ≡ before_line line (history J))
    (none : (k : ℕ) (m : readers.Message) → meaning J e ≡ Returned k → sent k (history J) ≡ Some m → m.body ≡ ReadDoc b.id → ⊥) where
  back-off : (n : ℕ) (c : Content) → ReadBack n line b c (history (e ∷ J)) → ReadBack n line b c (history J)
  back-off n c r = elim (back-cases acks P (history J) legal (meaning J e) n line b c same r) [ inl old ↦ old | inr now ↦ absurd (none (now.read).number (now.read).message now.is (now.read).was_sent (now.read).body) ]

  pub reads-over : (awaited next : Option ℕ) (a : Answers) → ((n : ℕ) → (a.told n ≡ true) ↔ WasRead (history (e ∷ J)) next line b n) → KnowsReads J awaited line b a → KnowsReads (e ∷ J) next line b a
  reads-over awaited next a told k = record {
    told = told;
    answered = λ n. (λ h. (let r = (k.answered n).0 h in (r.0, back-stays acks P (history J) (meaning J e) n line b r.0 same r.1)), λ r. (k.answered n).1 (r.0, back-off n r.0 r.1));
    short = through k.short (
      short-on acks P (history J) (meaning J e) line (IsReadOf b) same,
      short-off acks P (history J) legal (meaning J e) line (IsReadOf b) same (λ x. none x.number x.message x.is x.was_sent (x.tested).1),
    );
    newest = λ n c r. k.newest n c (back-off n c r);
    shown = λ z h. (let r = k.shown z h in (r.0, r.1, back-stays acks P (history J) (meaning J e) r.0 line b r.1 same r.2, r.3));
    written = λ x q. (let w = k.written x q in (w.0, entry-stays J e x.stamp x w.1));
  }

-- one at which no Store of the entry comes back, what was told of the Stores
pub stores-over : (acks : ℕ) (P : ℕ → ℕ → Bool) (H : Journal) (e : Event) → Legal acks P H → (line : ℕ) (b : Beginning) → before_line line (e ∷ H) ≡ before_line line H
    → ((k : ℕ) (m : readers.Message) (z : Stamp) → e ≡ Returned k → sent k H ≡ Some m → m.body ≡ Store b.id z → ⊥) → (awaited next : Option ℕ) (a : Answers) → ((n : ℕ) → (a.told n ≡ true) ↔ WasStored (e ∷ H) next b n)
    → ((n : ℕ) (z : Stamp) → answered_store b.version b.id z n (e ∷ H) ≡ answered_store b.version b.id z n H) → KnowsStores H awaited line b a → KnowsStores (e ∷ H) next line b a
stores-over acks P H e legal line b same none awaited next a told answered k = record {
  told = told;
  answered = λ n z q. k.answered n z q ∙ sym (answered n z);
  unstamped = k.unstamped;
  short = through k.short (
    short-on acks P H e line (IsStoreOf b) same,
    short-off acks P H legal e line (IsStoreOf b) same (λ x. none x.number x.message ((x.tested).1).0 x.is x.was_sent ((x.tested).1).2),
  );
}

pub entry-over : (J : List LaneEvent) (e : LaneEvent) (line : ℕ) (t : Standing) (written : Option Entry) → readers.wrote line (history (e ∷ J)) ≡ readers.wrote line (history J) → KnowsEntry J line t written → KnowsEntry (e ∷ J) line t written
entry-over J e line t None same k = same ∙ k
entry-over J e line t (Some x) same k = (same ∙ k.0, k.1, entry-stays J e x.stamp x k.2)

-- ---- deliveries

module _ (lane : Low) (rules : Rules) (J : List LaneEvent) (d : ℕ) (s : ClusterState) (line : ℕ) (row : Low) (written : Option Entry) (t : Standing) (legal : IsLegal (setting_of lane rules) J) where
  pub standing-waits : (awaited : Option ℕ) (k : ℕ) (r : NotedReply) → KnowsStanding lane rules J d s line row written awaited t → KnowsStanding lane rules (event.Delivered k r ∷ J) d s line row written awaited t
  standing-waits awaited k r know = record {
    plan = know.plan;
    entry = entry-over J (event.Delivered k r) line t written refl know.entry;
    looking = know.looking;
    reads = reads-over rules.acks (state_of (history J)) J (event.Delivered k r) (meant-legal (setting_of lane rules) J legal) line b refl (λ i m is. cc) awaited awaited (answers_of t.reads)
        (λ n. through ((know.reads).told n) (read-on (history J) (meaning J (event.Delivered k r)) awaited line b n refl, read-off (history J) (meaning J (event.Delivered k r)) awaited line b n refl (λ i. refl))) know.reads;
    stores = stores-over rules.acks (state_of (history J)) (history J) (meaning J (event.Delivered k r)) (meant-legal (setting_of lane rules) J legal) line b refl (λ i m z is. cc) awaited awaited (answers_of t.stores)
        (λ n. through ((know.stores).told n) (stored-on (history J) (meaning J (event.Delivered k r)) awaited b n, stored-off (history J) (meaning J (event.Delivered k r)) awaited b n (λ i. refl))) (λ n z. refl) know.stores;
  }
    where
      b : Beginning
      b = beginning_of d s t.plan.operation t.plan.stamp

  pub asked-waits : (number : ℕ) (m : Message) (k : ℕ) (r : NotedReply) → KnowsAsked lane rules J d s line row written t number m → KnowsAsked lane rules (event.Delivered k r ∷ J) d s line row written t number m
  asked-waits number m k r asked = record {
    known = standing-waits (Some number) k r asked.known;
    next = asked.next;
    flight = flight-stays J (event.Delivered k r) number m asked.flight;
    later = asked.later;
  }

pub just-waits : (J : List LaneEvent) (number other : ℕ) (m : Message) (r : NotedReply) → other ≢ number → IsJustSent J number m → IsJustSent (event.Delivered other r ∷ J) number m
just-waits J number other m r off just = record {
  flight = flight-stays J (event.Delivered other r) number m just.flight;
  unreplied = ap (λ z. or_else z (only_if (eqb other number) (meaning_reply J r))) just.unreplied ∙ ap (λ z. only_if z (meaning_reply J r)) (apart other number off);
  unreturned = just.unreturned;
}
