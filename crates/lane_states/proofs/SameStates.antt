-- A distributor holds one state.
use Rattle.std.proofs.Common.{◌≡◌, ℕ, List, sym, ap, ◌∙◌}
use Rattle.bucket_ids.specs.Buckets.{Low}
use Rattle.cluster_states.specs.declared.cluster_state.ClusterState.{ClusterState}
use Rattle.lane_journals.specs.Places.{state_in}
use Rattle.lane_journals.specs.declared.event.LaneEvent.{LaneEvent}
use Rattle.lane_keeping.specs.Acting.{IsActing}
use Rattle.proof_basics.proofs.Options.{some_same as some-same}

pub same-state : (lane : Low) (J : List LaneEvent) (d : ℕ) (s t : ClusterState) → IsActing lane J d s → IsActing lane J d t → s ≡ t
same-state lane J d s t a b =
    let v : s.version ≡ t.version = some-same s.version t.version (sym a.holds ∙ b.holds) in
    some-same s t (sym a.published ∙ ap (λ (n : ℕ). state_in n J) v ∙ b.published)
