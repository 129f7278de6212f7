-- What the nodes of a lane go through.
use Rattle.std.proofs.Common.{◌≡◌, ◌∷◌, ℕ, List, refl, sym, subst}
use Rattle.messages.specs.declared.message.Message.{Message}
use Rattle.messages.specs.declared.reply.Reply.{Reply}
use Rattle.messages.specs.Noting.{noted_reply}
use Rattle.node_model.specs.Nodes.{Node}
use Rattle.lane_journals.specs.declared.event.LaneEvent.{LaneEvent}
use Rattle.lane_journals.specs.declared.event.LaneEvent.TheVariants.{Delivered}
use Rattle.lane_keeping.specs.Flights.{IsInFlight}
use Rattle.lane_keeping.specs.Replaying.{IsNoDelivery}
use Rattle.lane_keeping.specs.Spans.{IsTakenIn, NodesGo}
use Rattle.lane_keeping.proofs.Going.{go-none, go-waits, go-taken, go-further}
use Rattle.lane_keeping.specs.LaneKeeping.{node_in, NodesKeep}
use Rattle.lane_keeping.specs.Asking.{IsTakenBy}
use Rattle.lane_states.specs.declared.lane_state.LaneState.{LaneState}
use Rattle.lane_states.specs.LaneStates.{journal_of, NodesOn}

-- ---- a delivery

pub taken-in : (J : List LaneEvent) (nodes now : List Node) (k : ℕ) (m : Message) (r : Reply) → IsInFlight J k m → NodesKeep J nodes → IsTakenBy nodes now m r
    → IsTakenIn J (node_in nodes) (node_in now) k (noted_reply r)
taken-in J nodes now k m r flight keeps taken = record {
  message = m;
  reply = r;
  noted_is = refl;
  flight = flight;
  keeps = keeps m.receiver;
  takes = taken.takes;
  others = taken.others;
}

pub go-one : (J : List LaneEvent) (nodes now : List Node) (k : ℕ) (m : Message) (r : Reply) → IsInFlight J k m → NodesKeep J nodes → IsTakenBy nodes now m r
    → NodesGo J (node_in nodes) (Delivered k (noted_reply r) ∷ J) (node_in now)
go-one J nodes now k m r flight keeps taken = go-taken J J (node_in nodes) (node_in nodes) (node_in now) k (noted_reply r) (go-none J (node_in nodes) (node_in nodes) (λ n. refl)) (taken-in J nodes now k m r flight keeps taken)

-- ---- lanes

pub on-same : (c e : LaneState) → journal_of e ≡ journal_of c → ((n : ℕ) → node_in e.nodes.items n ≡ node_in c.nodes.items n) → NodesOn c e
on-same c e j same = subst (λ (J : List LaneEvent). NodesGo (journal_of c) (node_in c.nodes.items) J (node_in e.nodes.items)) (sym j)
    (go-none (journal_of c) (node_in c.nodes.items) (node_in e.nodes.items) same)

pub on-event : (c e : LaneState) (x : LaneEvent) → IsNoDelivery x → journal_of e ≡ x ∷ journal_of c → ((n : ℕ) → node_in e.nodes.items n ≡ node_in c.nodes.items n) → NodesOn c e
on-event c e x i j same = subst (λ (J : List LaneEvent). NodesGo (journal_of c) (node_in c.nodes.items) J (node_in e.nodes.items)) (sym j)
    (go-waits (journal_of c) (journal_of c) (node_in c.nodes.items) (node_in e.nodes.items) x i (go-none (journal_of c) (node_in c.nodes.items) (node_in e.nodes.items) same))

pub on-then : (b c e : LaneState) → NodesOn b c → NodesOn c e → NodesOn b e
on-then b c e h g = go-further (journal_of b) (journal_of c) (journal_of e) (node_in b.nodes.items) (node_in c.nodes.items) (node_in e.nodes.items) h g
