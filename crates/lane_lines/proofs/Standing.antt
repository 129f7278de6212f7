-- What is known of an operation that is prepared, as its messages are sent, delivered and told.
use Rattle.std.proofs.Common.{◌≡◌, ◌+◌, ℕ, Bool, false, true, List, ◌∷◌, Option, Some, None, is_some, refl, sym, subst}
use Rattle.bucket_ids.specs.Buckets.{Low}
use Rattle.cluster_states.specs.declared.cluster_state.ClusterState.{ClusterState}
use Rattle.documents.specs.declared.entry.Entry.{Entry}
use Rattle.messages.specs.declared.message.Message.{Message}
use Rattle.messages.specs.declared.noted.NotedReply.{NotedReply}
use Rattle.messages.specs.declared.reply.Reply.{Reply}
use Rattle.distributor_part.specs.declared.rules.Rules.{Rules}
use Rattle.op_machine.specs.declared.plan.Plan.{Plan}
use Rattle.op_machine.specs.declared.machine.Standing.{Standing}
use Rattle.op_machine.specs.Standings.{IsAnswered}
use Rattle.node_model.specs.Nodes.{Node}
use Rattle.lane_journals.specs.Readers.{stopped}
use Rattle.lane_journals.specs.Meanings.{history}
use Rattle.lane_journals.specs.KeptJournals.{IsLegal}
use Rattle.lane_journals.specs.declared.event.LaneEvent.{LaneEvent}
use Rattle.lane_journals.specs.declared.event.LaneEvent.TheVariants as event
use Rattle.lane_keeping.specs.Replaying.{sending, delivered}
use Rattle.lane_keeping.specs.LaneKeeping.{setting_of}
use Rattle.lane_keeping.specs.Acting.{IsActing}
use Rattle.lane_keeping.specs.Asking.{IsTakenBy}
use Rattle.operation_keeping.specs.OperationKeeping.{KnowsOperation}
use Rattle.operation_keeping.specs.Laws.{MayAskNext, MayWriteNext}
use Rattle.operation_keeping.proofs.Waiting.{standing-waits}
use Rattle.lane_lines.specs.Steps.{sender_of, IsStanding, IsAwaiting}
use Rattle.lane_states.specs.Exchanging.{OnlyDelivers, Brought}
use Rattle.lane_states.proofs.Exchanging.{over-deliveries}

-- the same acting, over one event more
acts-on : (lane : Low) (J : List LaneEvent) (d : ℕ) (s : ClusterState) (k : ℕ) (r : NotedReply) → IsActing lane J d s → IsActing lane (event.Delivered k r ∷ J) d s
acts-on lane J d s k r a = record { holds = a.holds; published = a.published; owner = a.owner }

module _ (lane : Low) (rules : Rules) where
  -- ---- deliveries

  module _ (J : List LaneEvent) (line : ℕ) (row : Low) (written : Bool) (t : Standing) (k : ℕ) (r : NotedReply) (legal : IsLegal (setting_of lane rules) J) where
    standing-delivered : IsStanding lane rules J line row written t → IsStanding lane rules (event.Delivered k r ∷ J) line row written t
    standing-delivered x = record {
      state = x.state;
      acting = acts-on lane J (sender_of t) x.state k r x.acting;
      entry = x.entry;
      stands = record {
        knows = standing-waits lane rules J (sender_of t) x.state line row x.entry t legal None k r (x.stands).knows;
        operation_is = refl;
      };
      written_is = x.written_is;
    }

  -- several ones
  standing-over : (J K : List LaneEvent) (line : ℕ) (row : Low) (written : Bool) (t : Standing) → OnlyDelivers J K → IsLegal (setting_of lane rules) K
      → IsStanding lane rules J line row written t → IsStanding lane rules K line row written t
  standing-over J K line row written t h l x = over-deliveries (λ (X : List LaneEvent). IsLegal (setting_of lane rules) X → IsStanding lane rules X line row written t)
      (λ n r X f legal. standing-delivered X line row written t n r legal.0 (f legal.0)) J K h (λ legal. x) l

  -- ---- what comes next is written, or sent

  module _ (J : List LaneEvent) (line : ℕ) (row : Low) (written : Bool) (t : Standing) (x : IsStanding lane rules J line row written t) where
    pub standing-wrote : (e : Entry) → MayWriteNext lane rules J (sender_of t) x.state line row t e → IsStanding lane rules (event.Wrote line e ∷ J) line row true t
    standing-wrote e may = record {
      state = x.state;
      acting = record { holds = (x.acting).holds; published = (x.acting).published; owner = (x.acting).owner };
      entry = Some e;
      stands = record {
        knows = may.known;
        operation_is = refl;
      };
      written_is = refl;
    }

    pub awaiting-sent : (last : ℕ) (m : Message) → MayAskNext lane rules J last (sender_of t) x.state line row x.entry t m → IsAwaiting lane rules (sending (last + 1) m ∷ J) line row written t (last + 1) m
    awaiting-sent last m may = record {
      state = x.state;
      acting = record { holds = (x.acting).holds; published = (x.acting).published; owner = (x.acting).owner };
      entry = x.entry;
      asked = may.asked;
      written_is = x.written_is;
    }

  -- ---- the answer

  -- the same plan, of which more was told
  by-plan : (J : List LaneEvent) (line : ℕ) (row : Low) (written : Bool) (t x : Standing) (s : ClusterState) (entry : Option Entry) → x.plan ≡ t.plan → IsActing lane J (sender_of t) s → written ≡ is_some entry
      → KnowsOperation lane rules J (sender_of t) s line row entry x → IsStanding lane rules J line row written x
  by-plan J line row written t x s entry e acting is knows = record {
    state = s;
    acting = subst (λ (q : Plan). IsActing lane J q.origin.sender s) (sym e) acting;
    entry = entry;
    stands = record { knows = subst (λ (q : Plan). KnowsOperation lane rules J q.origin.sender s line row entry x) (sym e) knows; operation_is = refl };
    written_is = is;
  }

  -- none came
  standing-silent : (J : List LaneEvent) (line : ℕ) (row : Low) (written : Bool) (t x : Standing) (number : ℕ) (m : Message) (w : IsAwaiting lane rules J line row written t number m) → x.plan ≡ t.plan
      → KnowsOperation lane rules J (sender_of t) w.state line row w.entry x → IsStanding lane rules J line row written x
  standing-silent J line row written t x number m w e knows = by-plan J line row written t x w.state w.entry e w.acting w.written_is knows

  -- it was delivered just now, and came back
  standing-back : (J : List LaneEvent) (line : ℕ) (row : Low) (written : Bool) (t x : Standing) (number : ℕ) (m : Message) (y : Reply) (w : IsAwaiting lane rules J line row written t number m) → x.plan ≡ t.plan
      → KnowsOperation lane rules (event.Returned number ∷ delivered number y ∷ J) (sender_of t) w.state line row w.entry x → IsStanding lane rules (event.Returned number ∷ delivered number y ∷ J) line row written x
  standing-back J line row written t x number m y w e knows = by-plan (event.Returned number ∷ delivered number y ∷ J) line row written t x w.state w.entry e
      (record { holds = (w.acting).holds; published = (w.acting).published; owner = (w.acting).owner }) w.written_is knows

  -- it did or didn't, and messages were delivered
  module _ (J : List LaneEvent) (nodes : List Node) (line : ℕ) (row : Low) (written : Bool) (t x : Standing) (number : ℕ) (m : Message) (w : IsAwaiting lane rules J line row written t number m) (same : x.plan ≡ t.plan)
      (silent : IsAnswered m.receiver None t x → KnowsOperation lane rules J (sender_of t) w.state line row w.entry x)
      (heard : (now : List Node) (r : Reply) → stopped m.receiver (history J) ≡ false → IsTakenBy nodes now m r → IsAnswered m.receiver (Some r) t x
      → KnowsOperation lane rules (event.Returned number ∷ delivered number r ∷ J) (sender_of t) w.state line row w.entry x) where
    pub standing-told : (y : Option Reply) (K : List LaneEvent) → IsAnswered m.receiver y t x → Brought J nodes number m y K → IsLegal (setting_of lane rules) K → IsStanding lane rules K line row written x
    standing-told None K told back legal = standing-over J K line row written x back legal (standing-silent J line row written t x number m w same (silent told))
    standing-told (Some r) K told back legal = standing-over (event.Returned number ∷ delivered number r ∷ J) K line row written x back.delivers legal
        (standing-back J line row written t x number m r w same (heard back.now r back.runs back.taken told))
