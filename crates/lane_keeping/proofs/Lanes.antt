-- A lane goes on replaying to its nodes.
use Rattle.std.proofs.Common.{◌≡◌, ℕ, Bool, true, false, cond, List, [], ◌∷◌, refl, sym, ◌∙◌, subst, eqb, eqb-true, eq-eqb}
use mathlib.Core.Bool.{true≢false}
use Rattle.pieces.specs.Runs.{AreRuns}
use Rattle.messages.specs.declared.message.Message.{Message}
use Rattle.messages.specs.declared.reply.Reply.{Reply}
use Rattle.messages.specs.Noting.{noted_reply}
use Rattle.node_model.specs.Nodes.{Node, new_node}
use Rattle.node_model.specs.Takes.{Takes}
use Rattle.lane_journals.specs.Readers.{stopped}
use Rattle.lane_journals.specs.Meanings.{history}
use Rattle.lane_journals.specs.Places.{Setting}
use Rattle.lane_journals.specs.KeptJournals.{IsLegalStep}
use Rattle.lane_journals.specs.declared.event.LaneEvent.{LaneEvent}
use Rattle.lane_keeping.specs.NodeKeeping.{NodeKeeps}
use Rattle.lane_keeping.specs.Flights.{IsInFlight}
use Rattle.lane_keeping.specs.Replaying.{IsNoDelivery, IsTaken, delivered, Replays, with_node}
use Rattle.lane_keeping.proofs.Validity.{SmallKeys}
use Rattle.lane_keeping.proofs.Replays.{begins, waits, apart}
use Rattle.lane_keeping.proofs.Taking.{may-deliver, keeps-taken}

pub lane-begins : (S : Setting) → Replays S [] (λ n. new_node)
lane-begins S = record { legal = tt; nodes_are = begins }

pub lane-waits : (S : Setting) (J : List LaneEvent) (nodes : ℕ → Node) (e : LaneEvent) → Replays S J nodes → IsNoDelivery e → IsLegalStep S J e → Replays S (e ∷ J) nodes
lane-waits S J nodes e h i step = record { legal = (h.legal, step); nodes_are = λ n. waits J e n (nodes n) i (h.nodes_are n) }

module _ (laws : AreRuns) (small : SmallKeys) where
  pub lane-takes : (S : Setting) (J : List LaneEvent) (nodes : ℕ → Node) (number : ℕ) (m : Message) (y : Node) (r : Reply) → Replays S J nodes → IsInFlight J number m → stopped m.receiver (history J) ≡ false
      → Takes (nodes m.receiver) m y r → Replays S (delivered number r ∷ J) (with_node m.receiver y nodes)
  lane-takes S J nodes number m y r h flight runs takes = record {
    legal = (h.legal, may-deliver laws small S J number m (nodes m.receiver) y r taken);
    nodes_are = λ n. by_node n (eqb n m.receiver) refl;
  }
    where
      taken : IsTaken S J number m (nodes m.receiver) y r
      taken = record { legal = h.legal; flight = flight; runs = runs; keeps = h.nodes_are m.receiver; takes = takes }

      by_node : (n : ℕ) (t : Bool) → eqb n m.receiver ≡ t → NodeKeeps (delivered number r ∷ J) n (cond t y (nodes n))
      by_node n true e = subst (λ i. NodeKeeps (delivered number r ∷ J) i y) (sym (eqb-true n m.receiver e)) (keeps-taken laws small S J number m (nodes m.receiver) y r taken)
      by_node n false e = apart J number (noted_reply r) flight.sending n (nodes n) flight.was_sent (λ is. other n e (sym is ∙ flight.receiver_is)) (h.nodes_are n)
        where
          other : (n : ℕ) → eqb n m.receiver ≡ false → n ≡ m.receiver → ⊥
          other n e is = true≢false (sym (eq-eqb n m.receiver is) ∙ e)
