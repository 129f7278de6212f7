-- A message is on its way once it is sent, and stays so.
use Rattle.std.proofs.Common.{◌≡◌, ◌==◌, ℕ, List, ◌∷◌, Some, None, refl, ap, ◌∙◌, eq-eqb}
use Rattle.std.specs.FinMap as fin
use Rattle.documents.specs.declared.entry.Entry.{Entry}
use Rattle.entry_maps.specs.Stamps.{stamps_of}
use Rattle.messages.specs.declared.message.Message.{Message}
use Rattle.messages.specs.declared.body.Body.{Body}
use Rattle.messages.specs.declared.body.Body.TheVariants as body
use Rattle.messages.specs.Noting.{noted_body}
use Rattle.lane_journals.specs.Stamps.{Stamp}
use Rattle.lane_journals.specs.Buckets.{Id}
use Rattle.lane_journals.specs.Events as plain
use Rattle.lane_journals.specs.Readers as readers
use Rattle.lane_journals.specs.Readers.{or_else, only_if, sent, round_in}
use Rattle.lane_journals.specs.Meanings.{entry_at, id_in, id_at, content, meaning_body, meaning, history}
use Rattle.lane_journals.specs.States.{state_of}
use Rattle.lane_journals.specs.Places.{Setting}
use Rattle.lane_journals.specs.KeptJournals.{IsLegalStep}
use Rattle.lane_journals.specs.declared.event.LaneEvent.{LaneEvent}
use Rattle.lane_journals.specs.declared.event.LaneEvent.TheVariants.{Wrote}
use Rattle.lane_journals.proofs.Basics.{or_else-some, sent-stays, number-fresh}
use Rattle.lane_keeping.specs.NodeKeeping.{stamp_of}
use Rattle.lane_keeping.specs.Flights.{meant, Brings, IsWhole, IsInFlight}
use Rattle.lane_keeping.specs.Replaying.{sending}
use Rattle.lane_keeping.proofs.Stamping.{content-is}

pub entry-stays : (J : List LaneEvent) (e : LaneEvent) (s : Stamp) (x : Entry) → entry_at s J ≡ Some x → entry_at s (e ∷ J) ≡ Some x
entry-stays J (Wrote l y) s x h = or_else-some (entry_at s J) _ x h
entry-stays J _ s x h = h

brings-stay : (J : List LaneEvent) (e : LaneEvent) (x : Body) → Brings (λ s. entry_at s J) x → Brings (λ s. entry_at s (e ∷ J)) x
brings-stay J e (body.Store y) h = entry-stays J e y.stamp y h
brings-stay J e (body.Apply b m) h = λ id y g. let w = h id y g in (w.0, entry-stays J e y.stamp y w.1)
brings-stay J e body.Ask h = tt
brings-stay J e (body.Read b only) h = tt
brings-stay J e (body.Delete b s) h = tt
brings-stay J e (body.Split b) h = tt
brings-stay J e (body.Join b) h = tt
brings-stay J e (body.Ready b) h = tt
brings-stay J e (body.Activate b) h = tt

pub flight-stays : (J : List LaneEvent) (e : LaneEvent) (k : ℕ) (m : Message) → IsInFlight J k m → IsInFlight (e ∷ J) k m
flight-stays J e k m f = record {
  sending = f.sending;
  was_sent = sent-stays k (history J) f.sending (meaning J e) f.was_sent;
  version_is = f.version_is;
  receiver_is = f.receiver_is;
  body_is = f.body_is;
  brings = brings-stay J e m.body f.brings;
  whole = f.whole;
}

-- the noted body means what the body does
pub noted-meant : (J : List LaneEvent) (x : Body) → Brings (λ s. entry_at s J) x → meaning_body J (noted_body x) ≡ meant x
noted-meant J (body.Store e) h = ap (λ o. plain.Store (id_at (id_in o)) e.stamp) h
noted-meant J (body.Apply b m) h = let same : ◌≡◌ {A = plain.Content} (content J (stamps_of m)) (λ (id : Id). stamp_of (fin.get m id)) = λ i id. content-is J m h id i in ap (λ (u : plain.Content). plain.Apply b u) same
noted-meant J body.Ask h = refl
noted-meant J (body.Read b None) h = refl
noted-meant J (body.Read b (Some id)) h = refl
noted-meant J (body.Delete b s) h = refl
noted-meant J (body.Split b) h = refl
noted-meant J (body.Join b) h = refl
noted-meant J (body.Ready b) h = refl
noted-meant J (body.Activate b) h = refl

-- the message as the journal has it
abbrev sent_as : List LaneEvent → Message → readers.Message
sent_as J m = record { version = m.version; receiver = m.receiver; body = meaning_body J (noted_body m.body); round = round_in m.version (meaning_body J (noted_body m.body)) (history J) }

pub flight-sent : (S : Setting) (J : List LaneEvent) (k : ℕ) (m : Message) → IsLegalStep S J (sending k m) → Brings (λ s. entry_at s J) m.body → IsWhole m.body → IsInFlight (sending k m ∷ J) k m
flight-sent S J k m step brings whole =
    let none = number-fresh (state_of (history (sending k m ∷ J))) (history J) k m.version m.sender m.receiver (meaning_body J (noted_body m.body)) step.permitted in
    record {
      sending = sent_as J m;
      was_sent = ap (λ o. or_else o (only_if (k == k) (sent_as J m))) none ∙ ap (λ t. only_if t (sent_as J m)) (eq-eqb k k refl);
      version_is = refl;
      receiver_is = refl;
      body_is = noted-meant J m.body brings;
      brings = brings-stay J (sending k m) m.body brings;
      whole = whole;
    }
