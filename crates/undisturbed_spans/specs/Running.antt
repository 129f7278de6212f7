-- A round that a lane runs in a quiet span.
use Rattle.std.specs.Prelude.{◌≡◌, ◌<◌, ◌++◌, ℕ, true, List}
use Rattle.std.specs.FinMap as fin
use Rattle.bucket_ids.specs.Buckets.{Low}
use Rattle.cluster_states.specs.declared.cluster_state.ClusterState.{ClusterState}
use Rattle.cluster_states.specs.Publishing.{serves}
use Rattle.carriers.specs.declared.fate.Fate.{Fate}
use Rattle.messages.specs.declared.late.Late.{Late}
use Rattle.node_model.specs.Nodes.{Node}
use Rattle.lane_journals.specs.Events.{Content}
use Rattle.lane_journals.specs.Readers.{version, round_of, running}
use Rattle.lane_journals.specs.Meanings.{history}
use Rattle.lane_journals.specs.declared.event.LaneEvent.{LaneEvent}
use Rattle.lane_keeping.specs.NodeKeeping.{stamp_of}
use Rattle.lane_keeping.specs.Spans.{NodesGo}
use Rattle.lane_rest.specs.Sets.{newest_of}
use Rattle.pass_model.specs.Scripts.{Script}
use Rattle.lane_carriage.specs.Carrying.{AreCarried}
use Rattle.round_keeping.specs.RoundRuns.{IsRoundRun, WasRefused, is_read_in, is_apply_in}
use Rattle.undisturbed_spans.specs.Undisturbed.{GoesUndisturbed}
use Rattle.undisturbed_spans.specs.Rounding.{HasRounded, IsUnsent}

-- the newest that the serving nodes hold
abbrev pub union_of : ClusterState → (ℕ → Node) → Content
union_of s nodes = newest_of (serves s) (λ n id. stamp_of (fin.get (nodes n).entries id))

-- no node wanted memory in the round
pub record NoneWants (K : List LaneEvent) (v number : ℕ) (b : Low) : Type 0 where
  pub reads : WasRefused (history K) (is_read_in v b number) → ⊥
  pub applies : WasRefused (history K) (is_apply_in v b number) → ⊥

-- before anything was sent in the round with this number, which is under way in the row; each serving node knows the version
pub record IsStarted (s : ClusterState) (given : List Fate) (last : ℕ) (late : List Late) (J : List LaneEvent) (number : ℕ) (b : Low) : Type 0 where
  pub carried : AreCarried given J last late
  pub unsent : IsUnsent J s.version number
  pub round_is : round_of s.version b (history J) ≡ number
  pub under_way : running s.version b (history J) ≡ true
  pub current : (n : ℕ) → serves s n ≡ true → version n (history J) ≡ s.version
  pub few : (n : ℕ) → serves s n ≡ true → n < 32

-- its messages are sent one after the other, in a span that is quiet, and the nodes go through them
pub record RunsQuietly (d : Script) (lane : Low) (distributor : ℕ) (s : ClusterState) (given fates : List Fate) (last : ℕ) (late rest : List Late) (J K : List LaneEvent) (old now : ℕ → Node) (number : ℕ) (b : Low) : Type 0 where
  pub started : IsStarted s given last late J number b
  pub run : IsRoundRun lane distributor s last late J fates rest K
  pub nodes : NodesGo J old K now
  pub quiet : GoesUndisturbed d (given ++ fates) J K
  pub fine : NoneWants K s.version number b

-- then the nodes are what the round made of them, and know the same versions
pub record IsRunTo (d : Script) (s : ClusterState) (J K : List LaneEvent) (old now : ℕ → Node) (number : ℕ) (b : Low) : Type 0 where
  pub has : HasRounded d J K old now s.version number b (union_of s old)
  pub versions : (n : ℕ) → version n (history K) ≡ version n (history J)
  pub round_is : round_of s.version b (history K) ≡ number
  pub under_way : running s.version b (history K) ≡ true
