-- What a journal notes of a message, and that what it names stays.
use Rattle.std.proofs.Common.{◌≡◌, ◌==◌, ℕ, Bool, true, false, List, [], ◌∷◌, Option, None, Some, inl, inr, refl, sym, ap, ap₂, ◌∙◌}
use Rattle.documents.specs.declared.entry.Entry.{Entry}
use Rattle.messages.specs.declared.noted.NotedBody.{NotedBody}
use Rattle.messages.specs.declared.noted.NotedBody.TheVariants.{Ask, Read, Store, Apply, Delete, Split, Join, Ready, Activate}
use Rattle.lane_journals.specs.Stamps.{Stamp, newer}
use Rattle.lane_journals.specs.Buckets.{Id}
use Rattle.lane_journals.specs.Events as plain
use Rattle.lane_journals.specs.Readers.{or_else, only_if, Message, round_in, sent}
use Rattle.lane_journals.specs.Meanings.{entry_at, id_in, written, entry_of, pick, content, id_at, meaning_body, history}
use Rattle.lane_journals.specs.Naming.{IsEntry, Each, NamesSent}
use Rattle.lane_journals.specs.Places.{Setting}
use Rattle.lane_journals.specs.KeptJournals.{IsLegal}
use Rattle.lane_journals.specs.declared.event.LaneEvent.{LaneEvent}
use Rattle.lane_journals.specs.declared.event.LaneEvent.TheVariants.{Sent}
use Rattle.lane_journals.proofs.Basics.{or_else-some, or_else-cases, only_if-some}
use Rattle.lane_keeping.proofs.Flying.{entry-stays}
use Rattle.lane_changes.specs.Deliveries.{NotedMessage, noted_message}

-- ---- entries that are named

-- an entry was written with the stamp
abbrev pub IsThere : List LaneEvent → Stamp → Type 0
IsThere J s = (x : Entry) × (entry_at s J ≡ Some x)

abbrev pub AllThere : List LaneEvent → NotedBody → Type 0
AllThere J (Store s) = IsThere J s
AllThere J (Apply b ss) = Each (IsThere J) ss
AllThere J _ = Unit {0}

written-there : (J : List LaneEvent) (s : Stamp) (i : Id) → written s J ≡ Some i → IsThere J s
written-there J s i h = by_entry (entry_at s J) refl h
  where
    by_entry : (o : Option Entry) → entry_at s J ≡ o → id_in o ≡ Some i → IsThere J s
    by_entry None e g = cc
    by_entry (Some x) e g = (x, e)

each-there : (J : List LaneEvent) (ss us : List Stamp) → Each (λ s. IsEntry J us s) ss → Each (IsThere J) ss
each-there J [] us h = tt
each-there J (s ∷ ss) us h = (written-there J s (h.0).id (h.0).wrote, each-there J ss us h.1)

names-there : (J : List LaneEvent) (b : NotedBody) → NamesSent J b → AllThere J b
names-there J (Store s) h = written-there J s h.0 h.1
names-there J (Apply b ss) h = each-there J ss ss h.1
names-there J Ask h = tt
names-there J (Read b id) h = tt
names-there J (Delete b s) h = tt
names-there J (Split b) h = tt
names-there J (Join b) h = tt
names-there J (Ready b) h = tt
names-there J (Activate b) h = tt

-- ---- they stay

there-stays : (J : List LaneEvent) (e : LaneEvent) (s : Stamp) → IsThere J s → IsThere (e ∷ J) s
there-stays J e s h = (h.0, entry-stays J e s h.0 h.1)

same-entry : (J : List LaneEvent) (e : LaneEvent) (s : Stamp) → IsThere J s → entry_at s (e ∷ J) ≡ entry_at s J
same-entry J e s h = entry-stays J e s h.0 h.1 ∙ sym h.1

each-stays : (J : List LaneEvent) (e : LaneEvent) (ss : List Stamp) → Each (IsThere J) ss → Each (IsThere (e ∷ J)) ss
each-stays J e [] h = tt
each-stays J e (s ∷ ss) h = (there-stays J e s h.0, each-stays J e ss h.1)

all-stay : (J : List LaneEvent) (e : LaneEvent) (b : NotedBody) → AllThere J b → AllThere (e ∷ J) b
all-stay J e (Store s) h = there-stays J e s h
all-stay J e (Apply b ss) h = each-stays J e ss h
all-stay J e Ask h = tt
all-stay J e (Read b id) h = tt
all-stay J e (Delete b s) h = tt
all-stay J e (Split b) h = tt
all-stay J e (Join b) h = tt
all-stay J e (Ready b) h = tt
all-stay J e (Activate b) h = tt

pick-stays : (J : List LaneEvent) (e : LaneEvent) (id : Id) (ss : List Stamp) → Each (IsThere J) ss → pick (e ∷ J) id ss ≡ pick J id ss
pick-stays J e id [] h = refl
pick-stays J e id (s ∷ ss) h = ap₂ (λ (o : Option Entry) (p : Option Stamp). newer (entry_of id s (id_in o)) p) (same-entry J e s h.0) (pick-stays J e id ss h.1)

meaning-stays : (J : List LaneEvent) (e : LaneEvent) (b : NotedBody) → AllThere J b → meaning_body (e ∷ J) b ≡ meaning_body J b
meaning-stays J e (Store s) h = ap (λ (o : Option Entry). plain.Store (id_at (id_in o)) s) (same-entry J e s h)
meaning-stays J e (Apply b ss) h =
    let same : ◌≡◌ {A = plain.Content} (content (e ∷ J) ss) (content J ss) = λ i id. pick-stays J e id ss h i in
    ap (λ (u : plain.Content). plain.Apply b u) same
meaning-stays J e Ask h = refl
meaning-stays J e (Read b None) h = refl
meaning-stays J e (Read b (Some id)) h = refl
meaning-stays J e (Delete b s) h = refl
meaning-stays J e (Split b) h = refl
meaning-stays J e (Join b) h = refl
meaning-stays J e (Ready b) h = refl
meaning-stays J e (Activate b) h = refl

-- ---- messages

-- a message was noted, and what it names is there
pub record NotedAs (J : List LaneEvent) (k : ℕ) (m : Message) : Type 0 where
  pub noted : NotedMessage
  pub found : noted_message k J ≡ Some noted
  pub version_is : m.version ≡ noted.version
  pub receiver_is : m.receiver ≡ noted.receiver
  pub body_is : m.body ≡ meaning_body J noted.body
  pub there : AllThere J noted.body

found-stays : (k : ℕ) (J : List LaneEvent) (x : NotedMessage) (e : LaneEvent) → noted_message k J ≡ Some x → noted_message k (e ∷ J) ≡ Some x
found-stays k J x (Sent n v d to b) h = or_else-some (noted_message k J) _ x h
found-stays k J x _ h = h

noted-stays : (J : List LaneEvent) (k : ℕ) (m : Message) (e : LaneEvent) → NotedAs J k m → NotedAs (e ∷ J) k m
noted-stays J k m e h = record {
  noted = h.noted;
  found = found-stays k J h.noted e h.found;
  version_is = h.version_is;
  receiver_is = h.receiver_is;
  body_is = h.body_is ∙ sym (meaning-stays J e (h.noted).body h.there);
  there = all-stay J e (h.noted).body h.there;
}

-- what wasn't sent wasn't noted
none-noted : (k : ℕ) (J : List LaneEvent) → sent k (history J) ≡ None → noted_message k J ≡ None
none-noted k [] h = refl
none-noted k (Sent n v d to b ∷ J) h = by_tests (none-noted k J) (sent k (history J)) (n == k) refl h
  where
    by_tests : (sent k (history J) ≡ None → noted_message k J ≡ None) → (o : Option Message) (t : Bool) → sent k (history J) ≡ o → or_else o (only_if t (record { version = v; receiver = to; body = meaning_body J b; round = round_in v (meaning_body J b) (history J) })) ≡ None
        → or_else (noted_message k J) (only_if t (record { version = v; receiver = to; body = b })) ≡ None
    by_tests ih None true e g = cc
    by_tests ih None false e g = ap (λ (o : Option NotedMessage). or_else o None) (ih e)
    by_tests ih (Some m) t e g = cc
none-noted k (_ ∷ J) h = none-noted k J h

pub sent-noted : (S : Setting) (J : List LaneEvent) → IsLegal S J → (k : ℕ) (m : Message) → sent k (history J) ≡ Some m → NotedAs J k m
sent-noted S [] l k m h = cc
sent-noted S (Sent n v d to b ∷ J) l k m h = elim (or_else-cases (sent k (history J)) _ m h) [
  | inl old ↦ noted-stays J k m (Sent n v d to b) (sent-noted S J l.0 k m old)
  | inr new ↦ (let o = only_if-some (n == k) _ m new.1 in now new.0 o.0 o.1)
]
  where
    there : AllThere J b
    there = names-there J b (l.1).noted

    now : sent k (history J) ≡ None → (n == k) ≡ true → record { version = v; receiver = to; body = meaning_body J b; round = round_in v (meaning_body J b) (history J) } ≡ m → NotedAs (Sent n v d to b ∷ J) k m
    now none t is = record {
      noted = record { version = v; receiver = to; body = b };
      found = ap₂ (λ (o : Option NotedMessage) u. or_else o (only_if u (record { version = v; receiver = to; body = b }))) (none-noted k J none) t;
      version_is = ap (λ (x : Message). x.version) (sym is);
      receiver_is = ap (λ (x : Message). x.receiver) (sym is);
      body_is = ap (λ (x : Message). x.body) (sym is) ∙ sym (meaning-stays J (Sent n v d to b) b there);
      there = all-stay J (Sent n v d to b) b there;
    }
sent-noted S (e ∷ J) l k m h = noted-stays J k m e (sent-noted S J l.0 k m h)
