-- What stays over the events of messages stays over those of a round.
use Rattle.std.proofs.Common.{◌+◌, ℕ, List, ◌∷◌}
use Rattle.bucket_ids.specs.Buckets.{Low}
use Rattle.cluster_states.specs.declared.cluster_state.ClusterState.{ClusterState}
use Rattle.carriers.specs.declared.fate.Fate.{Fate}
use Rattle.messages.specs.declared.late.Late.{Late}
use Rattle.lane_carriage.specs.Waits.{numbers}
use Rattle.lane_journals.specs.declared.event.LaneEvent.{LaneEvent}
use Rattle.lane_keeping.specs.Replaying.{sending}
use Rattle.lane_carriage.specs.Carrying.{met_at}
use Rattle.round_keeping.specs.RoundRuns.{SendsNext, IsRoundRun, Nothing, Further}
use Rattle.carriers.specs.declared.fate.Fate.TheVariants as fate
use Rattle.lane_carriage.proofs.Staying.{IsOfMessage, stays-delivered, stays-dealt}

-- what stays over the events of messages stays over those that a round sends
module _ (P : List LaneEvent → Type 0) (stays : (e : LaneEvent) (J : List LaneEvent) → IsOfMessage e → P J → P (e ∷ J)) (lane : Low) (d : ℕ) (s : ClusterState) where
  stays-next : (f : Fate) (last : ℕ) (late rest : List Late) (J K : List LaneEvent) → SendsNext lane d s f last late J rest K → P J → P K
  stays-next f last late rest J K h p =
      stays-delivered P stays (numbers ((h.sends).due).taken) (h.sends).after K ((h.sends).due).delivered
      (stays-dealt P stays (met_at J h.message f) (last + 1) (sending (last + 1) h.message ∷ J) (h.sends).after (h.sends).dealt (stays (sending (last + 1) h.message) J tt p))

  pub stays-round : (last : ℕ) (late : List Late) (J : List LaneEvent) (fates : List Fate) (rest : List Late) (K : List LaneEvent) → IsRoundRun lane d s last late J fates rest K → P J → P K
  stays-round last late J fates rest K Nothing p = p
  stays-round last late J fates rest K (Further before mid M f left L run h) p = stays-next f _ mid left M L h (stays-round last late J before mid M run p)
