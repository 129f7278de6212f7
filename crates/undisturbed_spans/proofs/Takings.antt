-- One taking of a message that was sent with a number which was new, by a node that knows its version.
use Rattle.std.proofs.Common.{◌≡◌, ◌≢◌, ◌==◌, ◌++◌, ◌≤◌, ℕ, max, Bool, true, false, cond, nat_lt, List, [], ◌∷◌, length, Option, Some, None, refl, sym, ap, ◌∙◌, subst, arith, eqb, eqb-true, eq-eqb}
use Rattle.std.proofs.lemmas.Bool.Decides.{nat_tests}
use Rattle.messages.specs.declared.message.Message.{Message}
use Rattle.messages.specs.declared.noted.NotedReply.{NotedReply}
use Rattle.messages.specs.Noting.{noted_body}
use Rattle.node_model.specs.Nodes as lane
use Rattle.node_model.specs.Nodes.{adopt}
use Rattle.node_model.specs.Takes.{Treats}
use Rattle.lane_journals.specs.Readers as readers
use Rattle.lane_journals.specs.Readers.{or_else, only_if, sent, first_reply, round_in, raised, version}
use Rattle.lane_journals.specs.Meanings.{history, meaning_body, meaning_reply}
use Rattle.lane_journals.specs.declared.event.LaneEvent.{LaneEvent}
use Rattle.lane_journals.specs.declared.event.LaneEvent.TheVariants.{Delivered, Returned}
use Rattle.lane_keeping.specs.Flights.{meant}
use Rattle.lane_keeping.specs.Replaying.{sending}
use Rattle.upkeep_spans.specs.Spans.{later}
use Rattle.lane_keeping.specs.Spans.{IsTakenIn}

abbrev pub Nodes : Type 0
Nodes = ℕ → lane.Node

abbrev pub Events : Type 0
Events = List LaneEvent

-- a span is one list of events
pub one-span : ((J N : Events) → later (length J) (N ++ J) ≡ N) → (J K N M : Events) → K ≡ N ++ J → K ≡ M ++ J → N ≡ M
one-span behind J K N M e f = sym (behind J N) ∙ ap (later (length J)) (sym e ∙ f) ∙ behind J M

module _ (J : Events) (k : ℕ) (m : Message) where
  -- the message that was sent
  abbrev pub the : readers.Message
  the = record { version = m.version; receiver = m.receiver; body = meaning_body J (noted_body m.body); round = round_in m.version (meaning_body J (noted_body m.body)) (history J) }

  module _ (unsent : sent k (history J) ≡ None) where
    pub sent-now : sent k (history (sending k m ∷ J)) ≡ Some the
    sent-now = ap (λ o. or_else o (only_if (k == k) the)) unsent ∙ ap (λ t. only_if t the) (eq-eqb k k refl)

    -- taken once, it leaves its receiver its version
    pub still-current : (q : NotedReply) → version m.receiver (history J) ≡ m.version → version m.receiver (history (Returned k ∷ Delivered k q ∷ sending k m ∷ J)) ≡ m.version
    still-current q current = ap (λ o. raised m.receiver o (version m.receiver (history J))) sent-now
        ∙ ap (λ t. cond t (max m.version (version m.receiver (history J))) (version m.receiver (history J))) (eq-eqb m.receiver m.receiver refl)
        ∙ highest m.version (version m.receiver (history J)) current
      where
        highest : (a b : ℕ) → b ≡ a → max a b ≡ a
        highest a b e = omega (arith, e)

    -- no node knows another version then
    module _ (current : version m.receiver (history J) ≡ m.version) where
      raised-same : (n w : ℕ) → w ≡ version n (history J) → raised n (Some the) w ≡ version n (history J)
      raised-same n w e = by_test (eqb m.receiver n) refl
        where
          highest : (a b : ℕ) → b ≡ a → max a b ≡ b
          highest a b f = omega (arith, f)

          by_test : (t : Bool) → eqb m.receiver n ≡ t → cond t (max m.version w) w ≡ version n (history J)
          by_test true f = highest m.version w (e ∙ ap (λ i. version i (history J)) (sym (eqb-true m.receiver n f)) ∙ current) ∙ e
          by_test false f = e

      pub versions-once : (q : NotedReply) (n : ℕ) → version n (history (Returned k ∷ Delivered k q ∷ sending k m ∷ J)) ≡ version n (history J)
      versions-once q n = ap (λ o. raised n o (version n (history J))) sent-now ∙ raised-same n (version n (history J)) refl

      pub versions-twice : (q u : NotedReply) (n : ℕ) → version n (history (Delivered k u ∷ Returned k ∷ Delivered k q ∷ sending k m ∷ J)) ≡ version n (history J)
      versions-twice q u n = ap (λ o. raised n o (version n (history (Returned k ∷ Delivered k q ∷ sending k m ∷ J)))) sent-now
          ∙ raised-same n (version n (history (Returned k ∷ Delivered k q ∷ sending k m ∷ J))) (versions-once q n)

  -- its first reply
  module _ (silent : first_reply k (history J) ≡ None) (q : NotedReply) where
    pub first-is : first_reply k (history (Returned k ∷ Delivered k q ∷ sending k m ∷ J)) ≡ Some (meaning_reply (sending k m ∷ J) q)
    first-is = ap (λ o. or_else o (only_if (k == k) (meaning_reply (sending k m ∷ J) q))) silent ∙ ap (λ t. only_if t (meaning_reply (sending k m ∷ J) q)) (eq-eqb k k refl)

    pub second-is : (u : NotedReply) → first_reply k (history (Delivered k u ∷ Returned k ∷ Delivered k q ∷ sending k m ∷ J)) ≡ Some (meaning_reply (sending k m ∷ J) q)
    second-is u = ap (λ o. or_else o (only_if (k == k) (meaning_reply (Returned k ∷ Delivered k q ∷ sending k m ∷ J) u))) first-is

  module _ (L : Events) (f g : Nodes) (q : NotedReply) (was : sent k (history L) ≡ Some the) (current : version m.receiver (history L) ≡ m.version) (t : IsTakenIn L f g k q) where
    abbrev x : Message
    x = t.message

    same : (t.flight).sending ≡ the
    same = let w = (t.flight).was_sent in let both : Some (t.flight).sending ≡ Some the = sym w ∙ was in cc

    pub to : x.receiver ≡ m.receiver
    to = sym (t.flight).receiver_is ∙ ap (λ (y : readers.Message). y.receiver) same

    of-version : x.version ≡ m.version
    of-version = sym (t.flight).version_is ∙ ap (λ (y : readers.Message). y.version) same

    pub means : meant x.body ≡ meaning_body J (noted_body m.body)
    means = sym (t.flight).body_is ∙ ap (λ (y : readers.Message). y.body) same

    knows : (f x.receiver).version ≡ x.version
    knows = (t.keeps).version_is ∙ ap (λ n. version n (history L)) to ∙ current ∙ sym of-version

    pub treats : Treats (f x.receiver) x.body (g x.receiver) t.reply
    treats = subst (λ y. Treats y x.body (g x.receiver) t.reply) (adopted (f x.receiver) x.version knows) ((t.takes).treated (low (f x.receiver).version x.version knows))
      where
        not_less : (a b : ℕ) → a ≡ b → nat_lt a b ≡ false
        not_less a b e = grind (arith, nat_tests)

        low : (a b : ℕ) → a ≡ b → a ≤ b
        low a b e = omega (arith, e)

        adopted : (y : lane.Node) (v : ℕ) → y.version ≡ v → adopt v y ≡ y
        adopted y v e = ap (λ u. cond u (record { version = v; entries = y.entries; pieces = y.pieces; regions = []; serial = y.serial }) y) (not_less y.version v e)

    pub elsewhere : (n : ℕ) → n ≢ m.receiver → g n ≡ f n
    elsewhere n off = t.others n (λ e. off (e ∙ to))
