-- A lane whose message came back, with the parts that are told.
use Rattle.std.proofs.Common.{◌≡◌, ◌<◌, ◌+◌, ◌*◌, ◌^◌, ◌%◌, ◌||◌, ◌⊎◌, inl, inr, ℕ, Bool, List, ◌∷◌, ◌++◌, slice_set, Option, Some, None, refl, sym, ap, subst, ◌∙◌}
use Rattle.std.specs.Int.Bits.{bit_or}
use Rattle.bucket_ids.specs.Buckets.{Low}
use Rattle.node_sets.specs.Members.{has_node}
use Rattle.node_sets.proofs.Bits.{has_or, has_one}
use Rattle.messages.specs.declared.message.Message.{Message}
use Rattle.messages.specs.declared.reply.Reply.{Reply}
use Rattle.messages.specs.declared.reply.Reply.TheVariants as reply
use Rattle.distributor_part.specs.declared.rules.Rules.{Rules}
use Rattle.distributor_part.specs.Parts.{Part}
use Rattle.distributor_part.specs.Steps.{buckets_shown}
use Rattle.lane_journals.specs.Meanings.{history}
use Rattle.lane_journals.specs.declared.event.LaneEvent.{LaneEvent}
use Rattle.lane_journals.specs.declared.event.LaneEvent.TheVariants.{Returned}
use Rattle.lane_keeping.specs.Replaying.{delivered}
use Rattle.lane_keeping.specs.LaneKeeping.{part_in, Keeps}
use Rattle.lane_keeping.specs.Asking.{IsAsking, IsPartTold, KnowsTheSame, IsToldTo}
use Rattle.lane_keeping.specs.Laws.{IsNoAsk}
use Rattle.lane_keeping.proofs.Parts.{part-own, part-others}
use Rattle.lane_states.specs.declared.lane_state.LaneState.{LaneState}
use Rattle.lane_states.specs.Accepting.{AreAccepted}
use Rattle.lane_states.specs.LaneStates.{journal_of, IsKeptBy, IsKept, IsKeptWith, IsKeptWithSome, StaysKept, part_of, tells_of}
use Rattle.lane_states.specs.Exchanging.{IsAskOf, IsAskerTold, AreTold, IsKeptBack}
use Rattle.lane_states.proofs.Accepting.{accepted-stays, accepted-but, accepted-told}
use Rattle.lane_states.proofs.Kept.{kept_more}

-- ---- some parts are told

knows-same : (p : Part) → KnowsTheSame p p
knows-same p = record { alike = record { number_is = refl; lane_is = refl; rules_are = refl; state_is = refl; rows_are = refl }; answered_is = refl; shown_is = refl }

part-told : (p : Part) (node : ℕ) (r : Reply) → node < 32 → (q : Part) × IsPartTold p q node r
part-told p node (reply.Answer pieces entries) small = (
  record p { answered = bit_or p.answered (1 * 2 ^ node % 2 ^ 32); shown = p.shown ++ buckets_shown pieces },
  record {
    alike = record { number_is = refl; lane_is = refl; rules_are = refl; state_is = refl; rows_are = refl };
    marked = λ n. has_or p.answered (1 * 2 ^ node % 2 ^ 32) n ∙ ap (λ (b : Bool). has_node p.answered n || b) (has_one node n small);
    shown_is = refl;
  },
)
part-told p node (reply.Newer v) small = (p, knows-same p)
part-told p node reply.NoBucket small = (p, knows-same p)
part-told p node reply.Differs small = (p, knows-same p)
part-told p node reply.NoMemory small = (p, knows-same p)

told-somehow : (c : LaneState) (m : Message) (r : Reply) → IsNoAsk m.body ⊎ IsAskOf c m → (parts : List Part) × AreTold c m r parts
told-somehow c m r (inl other) = (c.parts.items, inl (other, refl))
told-somehow c m r (inr h) =
    let p = part_of c h.distributor in
    let q = part-told p m.receiver r h.small in (
      slice_set c.parts.items h.distributor q.0,
      inr (record {
        distributor = h.distributor;
        asks = h.asks;
        told = record {
          told = subst (λ (x : Part). IsPartTold p x m.receiver r) (sym (part-own c.lane c.rules c.parts.items h.distributor q.0 h.there)) q.1;
          others = part-others c.lane c.rules c.parts.items h.distributor q.0;
        };
      }),
    )

pub kept-somehow : (c e : LaneState) (m : Message) (o : Option Reply) → IsNoAsk m.body ⊎ IsAskOf c m → IsKeptBack c m o e → IsKeptWithSome e
kept-somehow c e m None asker k = (c.parts.items, k)
kept-somehow c e m (Some r) asker k = let told = told-somehow c m r asker in (told.0, k told.0 told.1)

-- ---- it is kept with them

module _ (x b : LaneState) (number : ℕ) (m : Message) (r : Reply) (parts : List Part) (after : b ≡ record x { journal = b.journal; nodes = b.nodes }) (grows : journal_of b ≡ delivered number r ∷ journal_of x)
    (kept : IsKeptWith x.parts.items b) where
  abbrev K : List LaneEvent
  K = delivered number r ∷ journal_of x

  keeps-at : Keeps x.lane x.rules (Returned number ∷ K) x.newest x.last b.nodes.items parts → Keeps b.lane b.rules (Returned number ∷ journal_of b) b.newest b.last b.nodes.items parts
  keeps-at h = subst (λ (J : List LaneEvent). Keeps b.lane b.rules (Returned number ∷ J) b.newest b.last b.nodes.items parts) (sym grows)
      (subst (λ (z : LaneState). Keeps z.lane z.rules (Returned number ∷ K) z.newest z.last b.nodes.items parts) (sym after) h)

  accepted-at-told : AreAccepted x.lane x.rules (journal_of x) parts → AreAccepted b.lane b.rules (journal_of b) parts
  accepted-at-told h = subst (λ (J : List LaneEvent). AreAccepted b.lane b.rules J parts) (sym grows)
      (subst (λ (z : LaneState). AreAccepted z.lane z.rules K parts) (sym after) (accepted-stays x.lane x.rules (journal_of x) (delivered number r) parts h))

  pub kept-told : AreAccepted x.lane x.rules (journal_of x) x.parts.items → AreTold x m r parts
      → (IsNoAsk m.body → Keeps x.lane x.rules (Returned number ∷ K) x.newest x.last b.nodes.items x.parts.items)
      → (IsAskerTold x m r parts → Keeps x.lane x.rules (Returned number ∷ K) x.newest x.last b.nodes.items parts)
      → IsKeptBy b.lane b.rules (Returned number ∷ journal_of b) b.newest b.last b.nodes.items parts b.late.late b.stopped (tells_of b)
  kept-told accepted (inl other) answered returned = kept_more kept
      (keeps-at (subst (λ (ps : List Part). Keeps x.lane x.rules (Returned number ∷ K) x.newest x.last b.nodes.items ps) (sym other.1) (answered other.0))) tt
      (accepted-at-told (subst (λ (ps : List Part). AreAccepted x.lane x.rules (journal_of x) ps) (sym other.1) accepted))
  kept-told accepted (inr t) answered returned = kept_more kept (keeps-at (returned t)) tt
      (accepted-at-told (accepted-but x.lane x.rules (journal_of x) x.parts.items parts t.distributor (t.told).others
      (accepted-told (history (journal_of x)) (part_of x t.distributor) (part_in x.lane x.rules parts t.distributor) m.receiver r (t.told).told (accepted t.distributor)) accepted))

-- ---- from call to call

-- the parts stay while a message is sent
pub asker-sent : (x b : LaneState) (m : Message) → b ≡ record x { journal = b.journal; last = x.last + 1 } → IsNoAsk m.body ⊎ IsAskOf x m → IsNoAsk m.body ⊎ IsAskOf b m
asker-sent x b m after (inl other) = inl other
asker-sent x b m after (inr h) = inr (subst (λ (z : LaneState). IsAskOf z m) (sym after) (record { distributor = h.distributor; asks = h.asks; there = h.there; small = h.small }))

told-by : (x b : LaneState) (m : Message) (r : Reply) (parts : List Part) → b.lane ≡ x.lane → b.rules ≡ x.rules → b.parts.items ≡ x.parts.items → AreTold x m r parts → AreTold b m r parts
told-by x b m r parts lane rules same (inl other) = inl (other.0, other.1 ∙ sym same)
told-by x b m r parts lane rules same (inr t) = inr (record {
  distributor = t.distributor;
  asks = subst (λ (l : Low). IsAsking l t.distributor (part_in l b.rules b.parts.items t.distributor) m) (sym lane)
      (subst (λ (s : Rules). IsAsking x.lane t.distributor (part_in x.lane s b.parts.items t.distributor) m) (sym rules)
      (subst (λ (ps : List Part). IsAsking x.lane t.distributor (part_in x.lane x.rules ps t.distributor) m) (sym same) t.asks));
  told = subst (λ (l : Low). IsToldTo l b.rules b.parts.items parts t.distributor m.receiver r) (sym lane)
      (subst (λ (s : Rules). IsToldTo x.lane s b.parts.items parts t.distributor m.receiver r) (sym rules)
      (subst (λ (ps : List Part). IsToldTo x.lane x.rules ps parts t.distributor m.receiver r) (sym same) t.told));
})

back-by : (x b e : LaneState) (m : Message) (o : Option Reply) → b.lane ≡ x.lane → b.rules ≡ x.rules → b.parts.items ≡ x.parts.items → IsKeptBack b m o e → IsKeptBack x m o e
back-by x b e m None lane rules same k = subst (λ (ps : List Part). IsKeptWith ps e) same k
back-by x b e m (Some r) lane rules same k = λ parts told. k parts (told-by x b m r parts lane rules same told)

back-on : (b d e : LaneState) (m : Message) (o : Option Reply) → StaysKept d e → IsKeptBack b m o d → IsKeptBack b m o e
back-on b d e m None stays k = stays b.parts.items k
back-on b d e m (Some r) stays k = λ parts told. stays parts (k parts told)

-- late ones are delivered
pub back-after : (x b d e : LaneState) (m : Message) (o : Option Reply) → b ≡ record x { journal = b.journal; last = x.last + 1 } → StaysKept d e → IsKeptBack b m o d → IsKeptBack x m o e
back-after x b d e m o after stays k = back-by x b e m o (ap (λ (z : LaneState). z.lane) after) (ap (λ (z : LaneState). z.rules) after) (ap (λ (z : LaneState). z.parts.items) after) (back-on b d e m o stays k)

-- room was made before
pub back-as : (x a e : LaneState) (m : Message) (o : Option Reply) → a ≡ record x { journal = a.journal; nodes = a.nodes; late = a.late } → IsKeptBack a m o e → IsKeptBack x m o e
back-as x a e m o after k = back-by x a e m o (ap (λ (z : LaneState). z.lane) after) (ap (λ (z : LaneState). z.rules) after) (ap (λ (z : LaneState). z.parts.items) after) k

-- ---- with its own parts

module _ (x e : LaneState) (after : e ≡ record x { journal = e.journal; last = e.last; nodes = e.nodes; late = e.late }) where
  own-parts : e.parts.items ≡ x.parts.items
  own-parts = ap (λ (z : LaneState). z.parts.items) after

  kept-own : IsKeptWith x.parts.items e → IsKept e
  kept-own k = subst (λ (ps : List Part). IsKeptWith ps e) (sym own-parts) k

  -- the message was no Ask
  pub kept-back : (m : Message) (o : Option Reply) → IsNoAsk m.body → IsKeptBack x m o e → IsKept e
  kept-back m None other k = kept-own k
  kept-back m (Some r) other k = kept-own (k x.parts.items (inl (other, refl)))
