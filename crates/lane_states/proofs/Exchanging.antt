-- What came back of a message, as further messages are delivered.
use Rattle.std.proofs.Common.{◌≡◌, ◌+◌, ◌∙◌, ℕ, List, ◌∷◌, ◌⊎◌, inl, inr, Option, Some, None, sym, subst}
use Rattle.carriers.specs.declared.fate.Fate.{Fate}
use Rattle.messages.specs.Noting.{noted_reply}
use Rattle.messages.specs.declared.message.Message.{Message}
use Rattle.messages.specs.declared.noted.NotedReply.{NotedReply}
use Rattle.messages.specs.declared.reply.Reply.{Reply}
use Rattle.messages.specs.declared.late.Late.{Late}
use Rattle.node_model.specs.Nodes.{Node}
use Rattle.node_model.specs.Takes.{Takes}
use Rattle.lane_journals.specs.Meanings.{entry_at}
use Rattle.lane_journals.specs.KeptJournals.{IsLegalStep}
use Rattle.lane_journals.specs.declared.event.LaneEvent.{LaneEvent}
use Rattle.lane_journals.specs.declared.event.LaneEvent.TheVariants.{Delivered, Returned}
use Rattle.lane_carriage.specs.Carriage.{AreDelivered, IsDealt}
use Rattle.lane_carriage.specs.Carrying.{met_at, DeliversSome}
use Rattle.lane_carriage.specs.Waits.{kept_by}
use Rattle.lane_carriage.proofs.GivenOut.{over-all}
use Rattle.lane_keeping.specs.Flights.{Brings}
use Rattle.lane_keeping.specs.Replaying.{sending, delivered}
use Rattle.lane_keeping.specs.LaneKeeping.{setting_of, node_in}
use Rattle.lane_keeping.specs.Laws.{IsNoAsk}
use Rattle.lane_states.specs.declared.lane_state.LaneState.{LaneState}
use Rattle.lane_states.specs.LaneStates.{journal_of, Went}
use Rattle.lane_states.specs.Exchanging.{IsAskOf, MayBeSent, OnlyDelivers, Nothing, Delivery, Brought}
use Rattle.lane_states.proofs.Going.{IsSentIn}

-- ---- deliveries

pub over-deliveries : (P : List LaneEvent → Type 0) → ((n : ℕ) (r : NotedReply) (X : List LaneEvent) → P X → P (Delivered n r ∷ X)) → (J K : List LaneEvent) → OnlyDelivers J K → P J → P K
over-deliveries P over J K Nothing p = p
over-deliveries P over J K (Delivery n r L h) p = over n r L (over-deliveries P over J L h p)

pub delivers-same : (J K : List LaneEvent) → K ≡ J → OnlyDelivers J K
delivers-same J K e = subst (λ (X : List LaneEvent). OnlyDelivers J X) (sym e) Nothing

pub delivers-one : (J K : List LaneEvent) (n : ℕ) (r : NotedReply) → K ≡ Delivered n r ∷ J → OnlyDelivers J K
delivers-one J K n r e = subst (λ (X : List LaneEvent). OnlyDelivers J X) (sym e) (Delivery n r J Nothing)

delivers-then : (J K L : List LaneEvent) → OnlyDelivers J K → OnlyDelivers K L → OnlyDelivers J L
delivers-then J K L a b = over-deliveries (λ (X : List LaneEvent). OnlyDelivers J X) (λ n r X x. Delivery n r X x) K L b a

delivers-late : (ns : List ℕ) (J K : List LaneEvent) → AreDelivered ns J K → OnlyDelivers J K
delivers-late ns J K h = over-all (λ (X : List LaneEvent). OnlyDelivers J X) (λ n r X x. Delivery n r X x) ns J K h Nothing

-- ---- what came back

pub brought-more : (J : List LaneEvent) (nodes : List Node) (number : ℕ) (m : Message) (o : Option Reply) (K L : List LaneEvent) → OnlyDelivers K L → Brought J nodes number m o K → Brought J nodes number m o L
brought-more J nodes number m None K L more h = delivers-then J K L h more
brought-more J nodes number m (Some r) K L more h = record { runs = h.runs; now = h.now; taken = h.taken; delivers = delivers-then (Returned number ∷ delivered number r ∷ J) K L h.delivers more }

brought-by : (J : List LaneEvent) (nodes same : List Node) (number : ℕ) (m : Message) (o : Option Reply) (K : List LaneEvent) → ((n : ℕ) → node_in nodes n ≡ node_in same n) → Brought J nodes number m o K → Brought J same number m o K
brought-by J nodes same number m None K are h = h
brought-by J nodes same number m (Some r) K are h = record {
  runs = h.runs;
  now = h.now;
  taken = record { takes = subst (λ (x : Node). Takes x m (node_in h.now m.receiver) r) (are m.receiver) (h.taken).takes; others = λ n off. (h.taken).others n off ∙ are n };
  delivers = h.delivers;
}

-- what stays over a delivery and over the return of the message stays over all that becomes of it
pub over-brought : (P : List LaneEvent → Type 0) → ((n : ℕ) (r : NotedReply) (X : List LaneEvent) → P X → P (Delivered n r ∷ X)) → (number : ℕ) → ((X : List LaneEvent) → P X → P (Returned number ∷ X))
    → (J : List LaneEvent) (nodes : List Node) (m : Message) (o : Option Reply) (K : List LaneEvent) → Brought J nodes number m o K → P J → P K
over-brought P over number back J nodes m None K h p = over-deliveries P over J K h p
over-brought P over number back J nodes m (Some r) K h p = over-deliveries P over (Returned number ∷ delivered number r ∷ J) K h.delivers (back (delivered number r ∷ J) (over number (noted_reply r) J p))

-- ---- in a lane

-- the message was sent and dealt with, and late ones were given out
pub brought-sent : (x b d e : LaneState) (m : Message) (o : Option Reply) (ns : List ℕ) → IsSentIn x b m → b.nodes.items ≡ x.nodes.items → AreDelivered ns (journal_of d) (journal_of e) → Brought (journal_of b) b.nodes.items b.last m o (journal_of d)
    → Brought (sending (x.last + 1) m ∷ journal_of x) x.nodes.items (x.last + 1) m o (journal_of e)
brought-sent x b d e m o ns s nodes late h = brought-more (sending (x.last + 1) m ∷ journal_of x) x.nodes.items (x.last + 1) m o (journal_of d) (journal_of e) (delivers-late ns (journal_of d) (journal_of e) late)
    (subst (λ (J : List LaneEvent). Brought J x.nodes.items (x.last + 1) m o (journal_of d)) s.journal
    (subst (λ (xs : List Node). Brought (journal_of b) xs (x.last + 1) m o (journal_of d)) nodes
    (subst (λ (n : ℕ). Brought (journal_of b) b.nodes.items n m o (journal_of d)) s.last h)))

-- room was made before
module _ (x a : LaneState) (m : Message) (after : a ≡ record x { journal = a.journal; nodes = a.nodes; late = a.late }) (same : journal_of a ≡ journal_of x) where
  abbrev z : LaneState
  z = record x { journal = a.journal; nodes = a.nodes; late = a.late }

  asker-still : IsNoAsk m.body ⊎ IsAskOf x m → IsNoAsk m.body ⊎ IsAskOf z m
  asker-still (inl other) = inl other
  asker-still (inr h) = inr (record { distributor = h.distributor; asks = h.asks; there = h.there; small = h.small })

  pub may-after : MayBeSent x m → MayBeSent a m
  may-after h = subst (λ (y : LaneState). MayBeSent y m) (sym after) (record {
    legal = subst (λ (J : List LaneEvent). IsLegalStep (setting_of x.lane x.rules) J (sending (x.last + 1) m)) (sym same) h.legal;
    brings = subst (λ (J : List LaneEvent). Brings (λ t. entry_at t J) m.body) (sym same) h.brings;
    whole = h.whole;
    asker = asker-still h.asker;
  })

  pub went-after : (e : LaneState) (given now : List Fate) → a.late.late ≡ x.late.late → Went a e m given now → Went x e m given now
  went-after e given now late h =
      let w : Went z e m given now = subst (λ (y : LaneState). Went y e m given now) after h in
      record {
        fate = w.fate;
        fates = w.fates;
        next = w.next;
        between = w.between;
        dealt = subst (λ (J : List LaneEvent). IsDealt (met_at J m w.fate) (x.last + 1) (sending (x.last + 1) m ∷ J) w.between) same w.dealt;
        late = subst (λ (l : List Late). DeliversSome (x.last + 1) (kept_by w.fate (x.last + 1) m l) e.late.late w.between (journal_of e)) late w.late;
        none_left = w.none_left;
      }

  pub brought-after : (o : Option Reply) (K : List LaneEvent) → ((n : ℕ) → node_in a.nodes.items n ≡ node_in x.nodes.items n) → Brought (sending (a.last + 1) m ∷ journal_of a) a.nodes.items (a.last + 1) m o K
      → Brought (sending (x.last + 1) m ∷ journal_of x) x.nodes.items (x.last + 1) m o K
  brought-after o K are h =
      let w : Brought (sending (x.last + 1) m ∷ journal_of a) a.nodes.items (x.last + 1) m o K = subst (λ (y : LaneState). Brought (sending (y.last + 1) m ∷ journal_of a) a.nodes.items (y.last + 1) m o K) after h in
      brought-by (sending (x.last + 1) m ∷ journal_of x) a.nodes.items x.nodes.items (x.last + 1) m o K are
      (subst (λ (J : List LaneEvent). Brought (sending (x.last + 1) m ∷ J) a.nodes.items (x.last + 1) m o K) same w)
