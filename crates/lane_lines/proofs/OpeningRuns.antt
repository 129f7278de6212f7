-- An Ask that a line has sent while its owner's part opens the state: what stays over its events, and what is known then.
use Rattle.std.proofs.Common.{◌≡◌, ◌⊎◌, ◌||◌, ◌==◌, ℕ, Bool, true, cond, List, ◌∷◌, Option, Some, None, inl, inr, refl, sym, subst, ap, ◌∙◌, eq-eqb, arith}
use Rattle.std.proofs.lemmas.Bool.{eqb-true}
use Rattle.bucket_ids.specs.Buckets.{Low}
use Rattle.node_sets.specs.Members.{has_node}
use Rattle.stamps.specs.declared.stamp.Stamp.{Stamp}
use Rattle.cluster_states.specs.declared.cluster_state.ClusterState.{ClusterState}
use Rattle.messages.specs.declared.body.Body.{Body}
use Rattle.messages.specs.declared.body.Body.TheVariants as body
use Rattle.messages.specs.declared.message.Message.{Message as Letter}
use Rattle.messages.specs.declared.noted.NotedReply.{NotedReply}
use Rattle.messages.specs.declared.operation.Operation.{Operation}
use Rattle.messages.specs.Noting.{noted_body}
use Rattle.distributor_part.specs.declared.rules.Rules.{Rules}
use Rattle.distributor_part.specs.Parts.{Part}
use Rattle.distributor_part.specs.Steps as steps
use Rattle.lane_journals.specs.Events as plain
use Rattle.lane_journals.specs.Readers as readers
use Rattle.lane_journals.specs.Readers.{Journal, or_else, only_if, before_line, sent, first_reply, returned}
use Rattle.lane_journals.specs.Places.{Setting}
use Rattle.lane_journals.specs.States.{state_of}
use Rattle.lane_journals.specs.Meanings.{history, meaning, meaning_body}
use Rattle.lane_journals.specs.KeptJournals.{IsLegal}
use Rattle.lane_journals.specs.declared.event.LaneEvent.{LaneEvent}
use Rattle.lane_journals.specs.declared.event.LaneEvent.TheVariants.{Sent, Delivered, Returned}
use Rattle.lane_journals.proofs.Basics.{sent-stays, sent-cases, first_reply-stays, returned-stays}
use Rattle.proof_basics.proofs.Options.{some-none}
use Rattle.lane_journals.proofs.Meant.{meant-legal}
use Rattle.lane_keeping.specs.Replaying.{sending}
use Rattle.lane_keeping.specs.LaneKeeping.{setting_of}
use Rattle.lane_keeping.specs.Acting.{IsNoHearing}
use Rattle.lane_keeping.proofs.Owners.{acting-stays}
use Rattle.operation_keeping.specs.OperationKeeping.{WasShortSince}
use Rattle.lane_keeping.specs.Lines.{IsOfNoLine}
use Rattle.operation_keeping.proofs.Lines.{preparing-waits}
use Rattle.operation_keeping.proofs.Messages.{since-on, since-cases}
use Rattle.operation_keeping.specs.Wants.{WasAskedSince, is_ask}
use Rattle.lane_states.specs.Growing.{CameShort, IsSettled}
use Rattle.lane_rounds.specs.Openings.{IsGone}
use Rattle.lane_lines.specs.OpeningRuns.{HasAskedJust, KnowsShort}
use Rattle.lane_lines.specs.Readying.{IsToPrepare, HasSent}
use Rattle.proof_basics.proofs.Tests.{raised, or_true as either, or_right as or-right}
use Rattle.lane_carriage.proofs.Staying.{IsOfMessage}
use Rattle.lane_rounds.proofs.OpeningSends.{carried, legal-sent}

-- ---- the line is still to be prepared

module _ (lane : Low) (line : ℕ) (o : Operation) (d : ℕ) (s : ClusterState) (stamp : Option Stamp) where
  -- over an event of no line by which no state is heard
  pub prepare-on : (e : LaneEvent) (K : List LaneEvent) → IsNoHearing e → IsOfNoLine e → IsToPrepare lane K line o d s stamp → IsToPrepare lane (e ∷ K) line o d s stamp
  prepare-on e K unheard none t = record { acting = acting-stays lane K d s e unheard t.acting; knows = preparing-waits lane K e d s line o stamp none t.knows }

  pub prepare-stays : (e : LaneEvent) (K : List LaneEvent) → IsOfMessage e → IsToPrepare lane K line o d s stamp → IsToPrepare lane (e ∷ K) line o d s stamp
  prepare-stays (Sent n v from to x) K i t = prepare-on (Sent n v from to x) K tt tt t
  prepare-stays (Delivered n r) K i t = prepare-on (Delivered n r) K tt tt t
  prepare-stays (Returned n) K i t = prepare-on (Returned n) K tt tt t
  prepare-stays _ K i t = absurd i

-- ---- whom it asked

module _ (from : Journal) (v n : ℕ) where
  -- where messages are sent as before
  asked-as : (H G : Journal) → ((k : ℕ) → sent k G ≡ sent k H) → WasAskedSince from H v n → WasAskedSince from G v n
  asked-as H G same w = record {
    number = w.number;
    message = w.message;
    was_sent = same w.number ∙ w.was_sent;
    later = w.later;
    version = w.version;
    receiver = w.receiver;
    body = w.body;
  }

  asked-stays : (K : List LaneEvent) (number : ℕ) (m : Letter) → WasAskedSince from (history K) v n → WasAskedSince from (history (sending number m ∷ K)) v n
  asked-stays K number m w = record {
    number = w.number;
    message = w.message;
    was_sent = sent-stays w.number (history K) w.message (meaning K (sending number m)) w.was_sent;
    later = w.later;
    version = w.version;
    receiver = w.receiver;
    body = w.body;
  }

  -- an Ask more is to the receiver
  asked-cases : (K : List LaneEvent) (number : ℕ) (m : Letter) → WasAskedSince from (history (sending number m ∷ K)) v n → WasAskedSince from (history K) v n ⊎ (n ≡ m.receiver)
  asked-cases K number m w = elim (sent-cases w.number (history K) (meaning K (sending number m)) w.message w.was_sent) [
    | inl old ↦ inl (record { number = w.number; message = w.message; was_sent = old; later = w.later; version = w.version; receiver = w.receiver; body = w.body })
    | inr new ↦ inr (sym w.receiver ∙ same new.sender new.is)
  ]
    where
      same : (a : ℕ) → plain.Sent number m.version m.sender m.receiver (meaning_body K (noted_body m.body)) ≡ plain.Sent w.number (w.message).version a (w.message).receiver (w.message).body → (w.message).receiver ≡ m.receiver
      same a e = cc

-- ---- an Ask was sent

-- the message that an Ask is
abbrev asking : Letter → readers.Message
asking m = record { version = m.version; receiver = m.receiver; body = plain.Ask; round = 0 }

-- it was sent just now, since the search began
pub record IsAskSent (from H : Journal) (number : ℕ) (m : Letter) : Type 0 where
  pub was_sent : sent number H ≡ Some (asking m)
  pub later : sent number from ≡ None

module _ (lane : Low) (rules : Rules) (line : ℕ) (o : Operation) (d : ℕ) (s : ClusterState) (stamp : Option Stamp) (K : List LaneEvent) (number : ℕ) (m : Letter) where
  -- the number is fresh
  unsent : IsLegal (setting_of lane rules) (sending number m ∷ K) → sent number (history K) ≡ None
  unsent l = some-none (sent number (history K)) (λ x h. let less = ((l.1).permitted).greater number x h in omega (arith, less))

  unsent-before : (from : Journal) → IsLegal (setting_of lane rules) (sending number m ∷ K) → HasSent from K → sent number from ≡ None
  unsent-before from l has = some-none (sent number from) (λ x h.
      let none : None ≡ Some x = sym (unsent l) ∙ has number x h in cc)

  ask-sent : (from : Journal) → IsLegal (setting_of lane rules) (sending number m ∷ K) → HasSent from K → m.body ≡ body.Ask → IsAskSent from (history (sending number m ∷ K)) number m
  ask-sent from l has is = record {
    was_sent = subst (λ (b : Body). sent number (history (sending number (record m { body = b }) ∷ K)) ≡ Some (asking m)) (sym is)
        (ap (λ (x : Option readers.Message). or_else x (only_if (number == number) (asking m))) (unsent l) ∙ ap (λ (t : Bool). only_if t (asking m)) (eq-eqb number number refl));
    later = unsent-before from l has;
  }

-- ---- it was dealt with

or-left : (a b : Bool) → a ≡ true → (a || b) ≡ true
or-left a b h = ap (λ (t : Bool). t || b) h

came-on : (number : ℕ) (X : List LaneEvent) (e : LaneEvent) → CameShort number (history X) → CameShort number (history (e ∷ X))
came-on number X e c = (returned-stays number (history X) (meaning X e) c.0, first_reply-stays number (history X) plain.NoMemory (meaning X e) c.1)

module _ (lane : Low) (rules : Rules) (line : ℕ) (o : Operation) (d : ℕ) (s : ClusterState) (stamp : Option Stamp) (K L : List LaneEvent) (number : ℕ) (m : Letter)
    (legal : IsLegal (setting_of lane rules) L) (gone : IsGone number m K L) (from : Journal) (has : HasSent from K) (version_is : m.version ≡ s.version) (body_is : m.body ≡ body.Ask) where
  abbrev S : Setting
  S = setting_of lane rules

  abbrev test : readers.Message → Type 0
  test = is_ask s.version

  begins : IsLegal S (sending number m ∷ K)
  begins = legal-sent S number m K L gone legal

  pub just : IsAskSent from (history (sending number m ∷ K)) number m
  just = ask-sent lane rules line o d s stamp K number m from begins has body_is

  -- what was sent before it is
  pub sent-after : HasSent from L
  sent-after = carried (λ (X : List LaneEvent). HasSent from X) number (λ n r X p k x h. p k x h) (λ X p k x h. p k x h) m K L gone (λ k x h. sent-stays k (history K) x (meaning K (sending number m)) (has k x h))

  pub asked-after : (q asked : Part) → steps.Asks q asked m → HasAskedJust K from s.version q → HasAskedJust L from s.version asked
  asked-after q asked a known = carried (λ (X : List LaneEvent). HasAskedJust X from s.version asked) number
      (λ n r X p i. (λ h. asked-as from s.version i (history X) (history (Delivered n r ∷ X)) (λ k. refl) ((p i).0 h), λ w. (p i).1 (asked-as from s.version i (history (Delivered n r ∷ X)) (history X) (λ k. refl) w)))
      (λ X p i. (λ h. asked-as from s.version i (history X) (history (Returned number ∷ X)) (λ k. refl) ((p i).0 h), λ w. (p i).1 (asked-as from s.version i (history (Returned number ∷ X)) (history X) (λ k. refl) w)))
      m K L gone (λ i. (to i, back i))
    where
      to : (i : ℕ) → has_node asked.asked i ≡ true → WasAskedSince from (history (sending number m ∷ K)) s.version i
      to i h = elim (either (has_node q.asked i) (i == m.receiver) (sym (a.marked i) ∙ h)) [
        | inl old ↦ asked-stays from s.version i K number m ((known i).0 old)
        | inr new ↦ record { number = number; message = asking m; was_sent = just.was_sent; later = just.later; version = version_is; receiver = sym (eqb-true i m.receiver new); body = refl }
      ]

      back : (i : ℕ) → WasAskedSince from (history (sending number m ∷ K)) s.version i → has_node asked.asked i ≡ true
      back i w = a.marked i ∙ elim (asked-cases from s.version i K number m w) [
        | inl old ↦ or-left (has_node q.asked i) (i == m.receiver) ((known i).1 old)
        | inr new ↦ or-right (has_node q.asked i) (i == m.receiver) (eq-eqb i m.receiver new)
      ]

  -- ---- whether one wanted memory

  short-later : (e : LaneEvent) (X : List LaneEvent) → WasShortSince from (history X) test → WasShortSince from (history (e ∷ X)) test
  short-later e X w = since-on rules.acks (state_of (history X)) (history X) (meaning X e) from test w

  short-old : WasShortSince from (history K) test → WasShortSince from (history L) test
  short-old w = carried (λ (X : List LaneEvent). WasShortSince from (history X) test) number (λ n r X p. short-later (Delivered n r) X p) (λ X p. short-later (Returned number) X p) m K L gone (short-later (sending number m) K w)

  short-new : CameShort number (history L) → WasShortSince from (history L) test
  short-new c = record {
    number = number;
    message = asking m;
    was_sent = carried (λ (X : List LaneEvent). sent number (history X) ≡ Some (asking m)) number (λ n r X p. p) (λ X p. p) m K L gone just.was_sent;
    later = just.later;
    tested = (version_is, refl);
    reply = c.1;
    back = c.0;
  }

  abbrev Cases : List LaneEvent → Type 0
  Cases X = IsLegal S X → WasShortSince from (history X) test → WasShortSince from (history K) test ⊎ CameShort number (history X)

  case-on : (e : LaneEvent) (X : List LaneEvent) → WasShortSince from (history K) test ⊎ CameShort number (history X) → WasShortSince from (history K) test ⊎ CameShort number (history (e ∷ X))
  case-on e X c = elim c [ inl old ↦ inl old | inr new ↦ inr (came-on number X e new) ]

  case-delivered : (n : ℕ) (r : NotedReply) (X : List LaneEvent) → Cases X → Cases (Delivered n r ∷ X)
  case-delivered n r X p l w = elim (since-cases rules.acks (state_of (history X)) (history X) (meant-legal S X l.0) (meaning X (Delivered n r)) from test w) [
    | inl old ↦ case-on (Delivered n r) X (p l.0 old)
    | inr now ↦ absurd (let e = now.is in cc)
  ]

  case-back : (X : List LaneEvent) → Cases X → Cases (Returned number ∷ X)
  case-back X p l w = elim (since-cases rules.acks (state_of (history X)) (history X) (meant-legal S X l.0) (meaning X (Returned number)) from test w) [
    | inl old ↦ case-on (Returned number) X (p l.0 old)
    | inr now ↦ inr (own now.number now.is now.reply)
  ]
    where
      own : (k : ℕ) → plain.Returned number ≡ plain.Returned k → first_reply k (history X) ≡ Some plain.NoMemory → CameShort number (history (Returned number ∷ X))
      own k e reply = let same : k ≡ number = cc in
          (ap (λ (t : Bool). cond t true (returned number (history X))) (eq-eqb number number refl), subst (λ (i : ℕ). first_reply i (history X) ≡ Some plain.NoMemory) same reply)

  case-sent : Cases (sending number m ∷ K)
  case-sent l w = elim (since-cases rules.acks (state_of (history K)) (history K) (meant-legal S K l.0) (meaning K (sending number m)) from test w) [
    | inl old ↦ inl old
    | inr now ↦ absurd (let e = now.is in cc)
  ]

  pub short-after : (was one : Bool) → IsSettled number L one → KnowsShort K from s.version was → KnowsShort L from s.version (was || one)
  short-after was one settled known = raised was one (WasShortSince from (history K) test) (CameShort number (history L)) (WasShortSince from (history L) test) known settled.short_is
      (carried Cases number case-delivered case-back m K L gone case-sent legal) short-old short-new
