-- One message of a round that was exchanged: what the round is told, and what is known then.
use Rattle.std.proofs.Common.{◌≡◌, ◌<◌, ℕ, false, List, ◌∷◌, Option, Some, None, refl, sym, subst}
use Rattle.bucket_ids.specs.Buckets.{Low}
use Rattle.cluster_states.specs.declared.cluster_state.ClusterState.{ClusterState}
use Rattle.carriers.specs.declared.fate.Fate.{Fate}
use Rattle.messages.specs.Noting.{noted_reply}
use Rattle.messages.specs.declared.message.Message.{Message}
use Rattle.messages.specs.declared.reply.Reply.{Reply}
use Rattle.node_model.specs.Nodes.{Node}
use Rattle.distributor_part.specs.declared.rules.Rules.{Rules}
use Rattle.distributor_part.specs.Parts.{Part}
use Rattle.merge_rounds.specs.Rounds.{RoundState, after_send, after_read, IsAfterApply}
use Rattle.lane_journals.specs.Readers.{stopped}
use Rattle.lane_journals.specs.Meanings.{history}
use Rattle.lane_journals.specs.Places.{Setting}
use Rattle.lane_journals.specs.KeptJournals.{IsLegal}
use Rattle.lane_journals.specs.declared.event.LaneEvent.{LaneEvent}
use Rattle.lane_journals.specs.declared.event.LaneEvent.TheVariants.{Returned}
use Rattle.lane_keeping.specs.Replaying.{delivered}
use Rattle.lane_keeping.specs.LaneKeeping.{setting_of, Keeps}
use Rattle.lane_keeping.specs.Asking.{IsJustSent, IsTakenBy}
use Rattle.lane_keeping.specs.RoundKeeping.{KnowsRound, IsAwaited}
use Rattle.round_keeping.specs.RoundRuns.{IsRunning, GoesOn, RunsOn, left}
use Rattle.round_keeping.specs.RoundShortages.{wants_memory, HadMemory}
use Rattle.round_keeping.specs.declared.round_run.RoundRun.{RoundRun}
use Rattle.round_keeping.proofs.Running.{goes-round, reply-goes, reply-told, reply-left, running-delivered, runs-back, knows-as}
use Rattle.round_keeping.proofs.RoundTelling.{runs-none, sent-rest}
use Rattle.round_keeping.proofs.Runs.{runs-still}
use Rattle.lane_states.specs.declared.lane_state.LaneState.{LaneState}
use Rattle.lane_states.specs.LaneStates.{journal_of, Stays}
use Rattle.lane_states.specs.Growing.{IsSettled}
use Rattle.lane_states.specs.Exchanging.{OnlyDelivers, Brought}
use Rattle.lane_states.proofs.Exchanging.{over-deliveries}
use Rattle.lane_rounds.specs.RoundSteps.{IsRunTold}
use Rattle.lane_rounds.proofs.Settled.{settled-none, settled-back, settled-stays}
use Rattle.lane_rounds.proofs.Shortages.{settled-as, told-short, had-not, had-still}

-- ---- what the round is told

pub told-goes : (x z : RoundRun) (n : ℕ) (o : Option Reply) → IsRunTold x z n o → GoesOn x z
told-goes x z n None t = subst (λ (y : RoundRun). GoesOn x y) (sym t.1) (goes-round x z.round (reply-goes x.round z.round n None t.0))
told-goes x z n (Some r) t = record {
  run_is = subst (λ (y : RoundRun). y ≡ record x { round = y.round; unread = y.unread; unapplied = y.unapplied }) (sym t.run_is) refl;
  round_is = reply-goes x.round z.round n (Some r) t.told;
}

pub told-waits : (x z : RoundRun) (n : ℕ) (o : Option Reply) → IsRunTold x z n o → (z.round).awaited ≡ None
told-waits x z n None t = reply-told x.round z.round n None t.0
told-waits x z n (Some r) t = reply-told x.round z.round n (Some r) t.told

pub told-left : (x z : RoundRun) (n : ℕ) (o : Option Reply) → IsRunTold x z n o → left z.round ≡ left x.round
told-left x z n None t = reply-left x.round z.round n None t.0
told-left x z n (Some r) t = reply-left x.round z.round n (Some r) t.told

-- the message was taken from it before
pub sent-goes-on : (x : RoundRun) (q : RoundState) (m : Message) → q ≡ after_send x.round (Some m) → GoesOn x (record x { round = q })
sent-goes-on x q m e = goes-round x q
    (subst (λ (s : RoundState). s ≡ record x.round { reads = s.reads; applies = s.applies; awaited = s.awaited; shown = s.shown; union = s.union; holders = s.holders }) (sym (sent-rest x.round q m e)) refl)

-- ---- the round goes on

running-over : (S : Setting) (lane : Low) (J K : List LaneEvent) → OnlyDelivers J K → IsLegal S K → (x : RoundRun) → IsRunning lane J x → IsRunning lane K x
running-over S lane J K h l x k = over-deliveries (λ (X : List LaneEvent). IsLegal S X → IsRunning lane X x) (λ n r X f legal. running-delivered S lane X legal.0 x (f legal.0) n r) J K h (λ legal. k) l

module _ {lane : Low} {rules : Rules} {J : List LaneEvent} {newest : Option ClusterState} {last : ℕ} {nodes : List Node} {parts : List Part} (keep : Keeps lane rules J newest last nodes parts)
    (x z : RoundRun) (k : IsRunning lane J x) (number : ℕ) (m : Message) (wait : IsAwaited J x.round number m)
    (taken : (r : Reply) (now : List Node) → stopped m.receiver (history J) ≡ false → IsTakenBy nodes now m r → IsLegal (setting_of lane rules) (delivered number r ∷ J))
    (read : (r : Reply) (now : List Node) → stopped m.receiver (history J) ≡ false → IsTakenBy nodes now m r → (x.round).applies ≡ 0
    → KnowsRound lane (Returned number ∷ delivered number r ∷ J) x.distributor x.state (after_read x.round m.receiver (Some r)))
    (applied : (r : Reply) (now : List Node) (after : RoundState) → stopped m.receiver (history J) ≡ false → IsTakenBy nodes now m r → 0 < (x.round).applies → IsAfterApply x.round after m.receiver (Some r)
    → KnowsRound lane (Returned number ∷ delivered number r ∷ J) x.distributor x.state after)
    (unread : KnowsRound lane J x.distributor x.state (after_read x.round m.receiver None))
    (unapplied : (after : RoundState) → IsAfterApply x.round after m.receiver None → KnowsRound lane J x.distributor x.state after) where
  pub runs-told : (o : Option Reply) (K : List LaneEvent) → IsLegal (setting_of lane rules) K → Brought J nodes number m o K → IsRunTold x z m.receiver o → IsRunning lane K z
  runs-told None K legal back told = running-over (setting_of lane rules) lane J K back legal z
      (subst (λ (y : RoundRun). IsRunning lane J y) (sym told.1) (runs-none lane J x z.round m.receiver k told.0 unread unapplied))
  runs-told (Some r) K legal back told = running-over (setting_of lane rules) lane (Returned number ∷ delivered number r ∷ J) K back.delivers legal z
      (runs-back keep x z k number m r back.now wait back.taken told (taken r back.now back.runs back.taken)
      (knows-as keep x z k number m r back.now wait back.taken told (read r back.now back.runs back.taken) (λ after more h. applied r back.now after back.runs back.taken more h)))

-- whether the node wants memory
module _ (number : ℕ) (J : List LaneEvent) (nodes : List Node) (m : Message) (just : IsJustSent J number m) (x z : RoundRun) where
  pub settled-told : (o : Option Reply) (K : List LaneEvent) → Brought J nodes number m o K → IsRunTold x z m.receiver o → HadMemory x → IsSettled number K (wants_memory z)
  settled-told None K back told had = over-deliveries (λ (X : List LaneEvent). IsSettled number X (wants_memory z)) (λ n r X s. settled-stays number n X r (wants_memory z) s) J K back
      (settled-as number J false (wants_memory z) (had-not z (had-still x z told.1 had)) (settled-none number J just.unreturned))
  settled-told (Some r) K back told had = over-deliveries (λ (X : List LaneEvent). IsSettled number X (wants_memory z)) (λ n y X s. settled-stays number n X y (wants_memory z) s) (Returned number ∷ delivered number r ∷ J) K back.delivers
      (settled-as number (Returned number ∷ delivered number r ∷ J) _ (wants_memory z) (told-short x z m.receiver r had told) (settled-back number J (noted_reply r) just.unreplied))

-- ---- nothing was sent

pub runs-unsent : (lane : Low) (d : ℕ) (s : ClusterState) (x e : LaneState) (given now : List Fate) → Stays x e → now ≡ given → RunsOn lane d s given now x.last e.last x.late.late e.late.late (journal_of x) (journal_of e)
runs-unsent lane d s x e given now h same = subst (λ (fs : List Fate). RunsOn lane d s given fs x.last e.last x.late.late e.late.late (journal_of x) (journal_of e)) (sym same)
    (runs-still lane d s given x.last e.last x.late.late e.late.late (journal_of x) (journal_of e) h.last h.late h.journal)
