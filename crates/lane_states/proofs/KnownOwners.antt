-- The owner that is known owns the lane under each state of the same distributors.
use Rattle.std.proofs.Common.{◌≡◌, ◌==◌, ◌&&◌, ℕ, true, false, codes, slice_index_or, Some, sym, subst, arith}
use Rattle.std.proofs.lemmas.Bool.Decides.{nat_tests}
use Rattle.node_sets.specs.Members.{has_node}
use Rattle.bucket_ids.specs.Buckets.{Low}
use Rattle.cluster_states.specs.MarkTests.{counts}
use Rattle.cluster_states.specs.declared.marks.Mark.TheVariants.{Down}
use Rattle.cluster_states.specs.declared.cluster_state.ClusterState.{ClusterState}
use Rattle.ideal_nodes.specs.Scores.{score_of, IsFirst}
use Rattle.ideal_nodes.specs.Placement.{IsOwner}
use Rattle.ideal_nodes.proofs.StateMarks.{owner_of_set}
use Rattle.pieces.proofs.PieceLaws.{bucket-same}

pub known-owns : (known lane : Low) (s : ClusterState) (up set n : ℕ) → true ≡ ((known.bits == lane.bits) && (known.low == lane.low)) → true ≡ (up == set)
    → ((k : ℕ) → has_node set k ≡ counts false (slice_index_or s.distributors k Down)) → IsFirst (score_of (codes "owner") known) up n → IsOwner lane s n
known-owns known lane s up set n same_lane same_set is first =
    let here : known ≡ lane = bucket-same known lane (sym same_lane) in
    let all : up ≡ set = grind (arith, nat_tests) in
    subst (λ (x : Low). IsOwner x s n) here (owner_of_set known s up (Some n) (λ k. subst (λ (x : ℕ). has_node x k ≡ counts false (slice_index_or s.distributors k Down)) (sym all) (is k)) first)
