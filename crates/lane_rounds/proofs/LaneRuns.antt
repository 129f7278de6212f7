-- One message that the round of a lane sends.
use Rattle.std.proofs.Common.{◌+◌, ℕ, List, [], ◌∷◌, Some, arith}
use Rattle.bucket_ids.specs.Buckets.{Low}
use Rattle.cluster_states.specs.declared.cluster_state.ClusterState.{ClusterState}
use Rattle.carriers.specs.declared.fate.Fate.{Fate}
use Rattle.messages.specs.declared.message.Message.{Message}
use Rattle.merge_rounds.specs.Rounds.{RoundState, IsNext}
use Rattle.lane_carriage.specs.Carriage.{due}
use Rattle.lane_keeping.specs.RoundKeeping.{KnowsRound}
use Rattle.lane_states.specs.declared.lane_state.LaneState.{LaneState}
use Rattle.lane_states.specs.LaneStates.{journal_of, Went}
use Rattle.round_keeping.specs.RoundRuns.{Nothing, Further, RunsOn}
use Rattle.round_keeping.proofs.Runs.{sends-at}

module _ (lane : Low) (d : ℕ) (s : ClusterState) where
  -- one message
  pub runs-once : (c e : LaneState) (m : Message) (given now : List Fate) (r : RoundState) → KnowsRound lane (journal_of c) d s r → IsNext r (Some m) → Went c e m given now
      → RunsOn lane d s given now c.last e.last c.late.late e.late.late (journal_of c) (journal_of e)
  runs-once c e m given now r knows next w = record {
    fates = w.fate ∷ [];
    given_are = w.fates;
    last_is = w.next;
    run = Further [] c.late.late (journal_of c) w.fate e.late.late (journal_of e) Nothing (sends-at lane d s w.fate c.last (c.last + 0) c.late.late e.late.late (journal_of c) (journal_of e) (omega arith) (record {
      round = r;
      knows = knows;
      message = m;
      next = next;
      sends = record { after = w.between; dealt = w.dealt; due = w.late; none_left = w.none_left };
    }));
  }
