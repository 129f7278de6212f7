-- The settings of a pass, under a state that was published.
use Rattle.std.specs.Prelude.{ℕ, List}
use Rattle.bucket_ids.specs.Buckets.{Low}
use Rattle.cluster_states.specs.declared.cluster_state.ClusterState.{ClusterState}
use Rattle.cluster_states.specs.Publishing.{serves}
use Rattle.lane_journals.specs.Places.{Setting}
use Rattle.lane_journals.specs.declared.event.LaneEvent.{LaneEvent}
use Rattle.lane_rest.specs.Rest.{documents}
use Rattle.pass_model.specs.Rows.{Settings}

abbrev pub settings_of : Setting → ℕ → ℕ → ClusterState → List LaneEvent → (Low → List ℕ) → Settings
settings_of S first most s J ideal = record {
  serving = serves s;
  ideal = ideal;
  redundancy = S.redundancy;
  acks = S.acks;
  searchable = first;
  split_at = most;
  lane_bits = (S.lane).bits;
  documents = λ held b. documents b held J;
}
