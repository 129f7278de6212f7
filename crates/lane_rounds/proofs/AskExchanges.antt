-- An Ask that was exchanged: what its distributor is told, and what is known then.
use Rattle.std.proofs.Common.{◌≡◌, ◌<◌, ◌+◌, ◌||◌, inr, ℕ, Bool, true, false, List, ◌∷◌, length, slice_set, Option, Some, None, refl, sym, ap, subst, ◌∙◌, arith, eq-eqb}
use Rattle.messages.specs.Waiting.{NoneIsDue}
use Rattle.messages.specs.declared.late.Late.{Late}
use Rattle.lane_carriage.specs.Carrying.{DeliversSome}
use Rattle.lane_carriage.specs.Waits.{kept_by}
use Rattle.carriers.specs.declared.fate.Fate.{Fate}
use Rattle.messages.specs.Noting.{noted_reply}
use Rattle.messages.specs.declared.message.Message.{Message}
use Rattle.messages.specs.declared.reply.Reply.{Reply}
use Rattle.node_sets.specs.Members.{has_node}
use Rattle.node_model.specs.Nodes.{Node}
use Rattle.distributor_part.specs.Parts.{Part}
use Rattle.distributor_part.specs.Steps as steps
use Rattle.distributor_part.specs.Steps.{IsAfterAnswer}
use Rattle.distributor_part.proofs.PartLaws.{member_small}
use Rattle.lane_journals.specs.Meanings.{history}
use Rattle.lane_journals.specs.declared.event.LaneEvent.{LaneEvent}
use Rattle.lane_journals.specs.declared.event.LaneEvent.TheVariants.{Returned}
use Rattle.lane_keeping.specs.Replaying.{delivered}
use Rattle.lane_keeping.specs.LaneKeeping.{part_in, Keeps}
use Rattle.lane_keeping.specs.Asking.{IsJustSent, KnowsTheSame, IsPartTold, IsToldTo, OthersStay}
use Rattle.lane_keeping.proofs.Parts.{part-others}
use Rattle.lane_states.specs.declared.lane_state.LaneState.{LaneState}
use Rattle.lane_states.specs.Growing.{HasHeard, IsSettled}
use Rattle.lane_states.specs.LaneStates.{journal_of, IsKept, IsKeptWith, Asks, part_of, Went}
use Rattle.lane_states.specs.Exchanging.{Brought, IsKeptBack}
use Rattle.lane_states.proofs.Accepting.{accepted-at, accepted-alike}
use Rattle.lane_states.proofs.Exchanging.{over-deliveries}
use Rattle.lane_states.proofs.Kept.{kept_still}
use Rattle.lane_rounds.specs.Openings.{came_short}
use Rattle.lane_rounds.proofs.Settled.{settled-none, settled-back, settled-stays}
use Rattle.lane_rounds.proofs.Telling.{told-to, knows-at, heard-at, heard-after}

-- ---- whom it goes to

pub asked-small : (p q : Part) (m : Message) → steps.Asks p q m → m.receiver < 32
asked-small p q m a = member_small q.asked m.receiver (a.marked m.receiver ∙ ap (λ (b : Bool). has_node p.asked m.receiver || b) (eq-eqb m.receiver m.receiver refl) ∙ or-true (has_node p.asked m.receiver))
  where
    or-true : (b : Bool) → (b || true) ≡ true
    or-true true = refl
    or-true false = refl

-- ---- whether its node wants memory

pub settled-came : (number : ℕ) (J : List LaneEvent) (nodes : List Node) (m : Message) → IsJustSent J number m → (o : Option Reply) (K : List LaneEvent) → Brought J nodes number m o K → IsSettled number K (came_short o)
settled-came number J nodes m just None K back = over-deliveries (λ (X : List LaneEvent). IsSettled number X (came_short None)) (λ n r X s. settled-stays number n X r (came_short None) s) J K back (settled-none number J just.unreturned)
settled-came number J nodes m just (Some r) K back = over-deliveries (λ (X : List LaneEvent). IsSettled number X (came_short (Some r))) (λ n y X s. settled-stays number n X y (came_short (Some r)) s) (Returned number ∷ delivered number r ∷ J) K back.delivers
    (settled-back number J (noted_reply r) just.unreplied)

-- ---- its distributor is told

module _ (x e : LaneState) (m : Message) (d : ℕ) (p q : Part) (within : d < length e.parts.items) (is : part_in e.lane e.rules e.parts.items d ≡ p) (after : e ≡ record x { journal = e.journal; last = e.last; nodes = e.nodes; late = e.late }) where
  pub heard-came : (o : Option Reply) → IsAfterAnswer p q m.receiver o → HasHeard (part_of x d) (part_in e.lane e.rules (slice_set e.parts.items d q) d)
  heard-came o told = subst (λ (z : LaneState). HasHeard (part_of z d) (part_in e.lane e.rules (slice_set e.parts.items d q) d)) after
      (heard-at e.lane e.rules e.parts.items d p q within is (heard-after p q m.receiver o told))

  pub others-came : OthersStay x.lane x.rules x.parts.items (slice_set e.parts.items d q) d
  others-came = subst (λ (z : LaneState). OthersStay z.lane z.rules z.parts.items (slice_set e.parts.items d q) d) after (part-others e.lane e.rules e.parts.items d q)

  module _ (asks : Asks x d m) (heard : (r : Reply) → IsAfterAnswer p q m.receiver (Some r) → IsPartTold p q m.receiver r) (silent : IsAfterAnswer p q m.receiver None → KnowsTheSame p q)
      (known : Keeps e.lane e.rules (journal_of e) e.newest e.last e.nodes.items e.parts.items → KnowsTheSame (part_in e.lane e.rules e.parts.items d) (part_in e.lane e.rules (slice_set e.parts.items d q) d)
      → Keeps e.lane e.rules (journal_of e) e.newest e.last e.nodes.items (slice_set e.parts.items d q)) where
    pub kept-came : (o : Option Reply) → IsKeptBack x m o e → IsAfterAnswer p q m.receiver o → IsKeptWith (slice_set e.parts.items d q) e
    kept-came None k told =
        let own : IsKept e = subst (λ (z : LaneState). IsKeptWith z.parts.items e) (sym after) k in
        let same : KnowsTheSame p q = silent told in
        kept_still own (omega arith) (known own.keeps (knows-at e.lane e.rules e.parts.items d p q within is same))
        (accepted-at e.lane e.rules (journal_of e) e.parts.items d p q within is (accepted-alike (history (journal_of e)) p q (same.alike).state_is (same.alike).rows_are) own.accepted)
    kept-came (Some r) k told = k (slice_set e.parts.items d q) (inr (record {
      distributor = d;
      asks = asks;
      told = subst (λ (z : LaneState). IsToldTo z.lane z.rules z.parts.items (slice_set e.parts.items d q) d m.receiver r) after (told-to e.lane e.rules e.parts.items d p q m.receiver r within is (heard r told));
    }))

-- nothing else changes
pub went-told : (x e b : LaneState) (m : Message) (given now : List Fate) → journal_of b ≡ journal_of e → b.last ≡ e.last → b.late.late ≡ e.late.late → Went x e m given now → Went x b m given now
went-told x e b m given now j n l w = record {
  fate = w.fate;
  fates = w.fates;
  next = n ∙ w.next;
  between = w.between;
  dealt = w.dealt;
  late = subst (λ (K : List LaneEvent). DeliversSome (x.last + 1) (kept_by w.fate (x.last + 1) m x.late.late) b.late.late w.between K) (sym j)
      (subst (λ (late : List Late). DeliversSome (x.last + 1) (kept_by w.fate (x.last + 1) m x.late.late) late w.between (journal_of e)) (sym l) w.late);
  none_left = subst (λ (late : List Late). NoneIsDue (x.last + 1) late) (sym l) w.none_left;
}
