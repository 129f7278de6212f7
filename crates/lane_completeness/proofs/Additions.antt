-- What a line adds to its journal: no event of another line, of a state or of a node; and a round ends only once
-- nothing is left to send in it.
use Rattle.std.proofs.Common.{◌≡◌, ℕ, List, Option, Some, None, inl, inr, sym, subst}
use Rattle.bucket_ids.specs.Buckets.{Low}
use Rattle.stamps.specs.declared.stamp.Stamp.{Stamp}
use Rattle.cluster_states.specs.declared.cluster_state.ClusterState.{ClusterState}
use Rattle.documents.specs.declared.entry.Entry.{Entry}
use Rattle.messages.specs.declared.message.Message.{Message}
use Rattle.messages.specs.declared.body.Body.{Body}
use Rattle.messages.specs.declared.body.Body.TheVariants as body
use Rattle.messages.specs.declared.decision.Decision.TheVariants.{RoundBegun, RoundEnded}
use Rattle.messages.specs.declared.operation.Operation.{Operation}
use Rattle.messages.specs.declared.step.Step.{Step}
use Rattle.messages.specs.declared.step.Step.TheVariants as step
use Rattle.distributor_part.specs.declared.rules.Rules.{Rules}
use Rattle.distributor_part.specs.Parts.{Part}
use Rattle.merge_rounds.specs.Rounds.{RoundState, IsOver, IsNext}
use Rattle.op_machine.specs.Outcomes.{Next, Asks, Finishes}
use Rattle.lane_journals.specs.Readers.{Journal, began}
use Rattle.lane_journals.specs.Meanings.{history}
use Rattle.lane_journals.specs.Places.{state_in}
use Rattle.lane_journals.specs.Buckets.{key_of}
use Rattle.lane_journals.specs.declared.event.LaneEvent.{LaneEvent}
use Rattle.lane_journals.specs.declared.event.LaneEvent.TheVariants as event
use Rattle.lane_keeping.specs.Replaying.{sending}
use Rattle.lane_keeping.specs.Acting.{IsActing}
use Rattle.lane_keeping.specs.RoundKeeping.{KnowsRound}
use Rattle.operation_keeping.specs.OperationKeeping.{beginning_of, IsUnderWay}
use Rattle.operation_keeping.specs.Wants.{Adds, WantsSince, OpeningGives, RoundGives, BodyGives, NextGives, UnpreparedWants}

-- the round ends for the owner under the state of the line, once nothing is left to send
pub record Ending (lane : Low) (L : List LaneEvent) (line : ℕ) (o : Operation) (s : ClusterState) (r : RoundState) : Type 0 where
  pub distributor : ℕ
  pub stamp : Option Stamp
  pub begun : began line (history L) ≡ Some (beginning_of distributor s o stamp)
  pub published : state_in s.version L ≡ Some s
  pub knows : KnowsRound lane L distributor s r
  pub over : IsOver r

pub data Added (lane : Low) (L : List LaneEvent) (line : ℕ) (o : Operation) : LaneEvent → Type 0 where
  ASending : (number : ℕ) (m : Message) → Added lane L line o (sending number m)
  AnOpening : (d v : ℕ) (rows : List Low) → Added lane L line o (event.Opened d v rows)
  APreparing : (l : ℕ) (row : Low) (set : ℕ) → Added lane L line o (event.Prepared l row set)
  AWriting : (l : ℕ) (e : Entry) → Added lane L line o (event.Wrote l e)
  ARound : (d v : ℕ) (row : Low) (set : ℕ) → Added lane L line o (event.Decided d v (RoundBegun row set))
  AnEnd : (d : ℕ) (s : ClusterState) (r : RoundState) → Ending lane L line o s r → Added lane L line o (event.Decided d s.version (RoundEnded r.row r.holders))

module _ (lane : Low) (rules : Rules) (from : Journal) (L : List LaneEvent) (line : ℕ) (o : Operation) (e : LaneEvent) where
  abbrev Is : LaneEvent → Type 0
  Is x = Added lane L line o x

  same-event : (x : LaneEvent) → Adds e ≡ Adds x → x ≡ e
  same-event x h = cc

  by_step : (d : ℕ) (s : ClusterState) (p : Part) (x : Step) → OpeningGives L from d s p x (Adds e) → Is e
  by_step d s p (step.Send m) g = subst Is (sym g.1) (ASending g.0 m)
  by_step d s p (step.Open buckets) g = subst Is (sym g) (AnOpening d s.version buckets)
  by_step d s p (step.Decide x) g = absurd g
  by_step d s p (step.Finished missing) g = absurd g

  by_body : (written : Option Entry) (m : Message) (b : Body) → BodyGives line written m b e → Is e
  by_body (Some w) m b g = subst Is (sym g.1) (ASending g.0 m)
  by_body None m (body.Store w) g = subst Is (sym g) (AWriting line w)
  by_body None m body.Ask g = subst Is (sym g.1) (ASending g.0 m)
  by_body None m (body.Read b only) g = subst Is (sym g.1) (ASending g.0 m)
  by_body None m (body.Apply b u) g = subst Is (sym g.1) (ASending g.0 m)
  by_body None m (body.Delete b s) g = subst Is (sym g.1) (ASending g.0 m)
  by_body None m (body.Split b) g = subst Is (sym g.1) (ASending g.0 m)
  by_body None m (body.Join b) g = subst Is (sym g.1) (ASending g.0 m)
  by_body None m (body.Ready b) g = subst Is (sym g.1) (ASending g.0 m)
  by_body None m (body.Activate b) g = subst Is (sym g.1) (ASending g.0 m)

  by_next : (written : Option Entry) (x : Next) → NextGives line written x (Adds e) → Is e
  by_next written (Asks m) g = by_body written m m.body g
  by_next written (Finishes x) g = absurd g

  module _ (d : ℕ) (s : ClusterState) (stamp : Option Stamp) (acting : IsActing lane L d s) (under_way : IsUnderWay lane (history L) d s line o stamp) where
    by_round : (r : RoundState) → KnowsRound lane L d s r → (x : Option Message) → IsNext r x → RoundGives d s r x (Adds e) → Is e
    by_round r k (Some m) n g = subst Is (sym g.1) (ASending g.0 m)
    by_round r k None n g = subst Is (sym g) (AnEnd d s r (record { distributor = d; stamp = stamp; begun = under_way.begun_as; published = acting.published; knows = k; over = n }))

    by_unprepared : UnpreparedWants lane rules L line from (key_of o.id) d s (Adds e) → Is e
    by_unprepared (inl x) = by_step d s x.part x.step x.gives
    by_unprepared (inr (inl x)) = subst Is (same-event _ x.is) (ARound d s.version (x.row).bucket x.receivers)
    by_unprepared (inr (inr (inl x))) = by_round x.round x.knows x.next x.is_next x.gives
    by_unprepared (inr (inr (inr (inl x)))) = subst Is (same-event _ x.is) (APreparing line (x.row).bucket (x.row).complete)
    by_unprepared (inr (inr (inr (inr x)))) = elim x.gives [ inl a ↦ absurd a.1 | inr a ↦ absurd a.1 ]

  pub added : WantsSince lane rules line o from L (Adds e) → Added lane L line o e
  added w = elim w.wants [
    | inl u ↦ by_unprepared w.distributor w.state w.stamp w.acting w.under_way u.1
    | inr x ↦ by_next x.written _ x.gives
  ]
