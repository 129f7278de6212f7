-- What is known of a round that is over, and was run in a quiet span.
use Rattle.std.specs.Prelude.{◌≡◌, ◌⊎◌, ◌<◌, ℕ, true, List}
use Rattle.std.specs.List.{list_any}
use Rattle.std.specs.FinMap as fin
use Rattle.bucket_ids.specs.Buckets.{Low}
use Rattle.node_sets.specs.Members.{has_node}
use Rattle.cluster_states.specs.declared.cluster_state.ClusterState.{ClusterState}
use Rattle.cluster_states.specs.Publishing.{serves}
use Rattle.node_model.specs.Nodes.{Node}
use Rattle.merge_rounds.specs.Rounds.{RoundState, HaveAllShown, IsOver, pieces_by}
use Rattle.lane_journals.specs.Events.{Content}
use Rattle.lane_journals.specs.declared.event.LaneEvent.{LaneEvent}
use Rattle.lane_keeping.specs.NodeKeeping.{stamp_of}
use Rattle.lane_keeping.specs.RoundKeeping.{KnowsRoundOf}
use Rattle.lane_rest.specs.Sets.{newest_of}
use Rattle.pass_model.specs.Scripts.{Script}
use Rattle.pass_model.specs.Shapes.{Over, Inside, IsApart, shape_of}
use Rattle.undisturbed_spans.specs.Rounding.{HasRounded, AreAlike, was_told}
use Rattle.pass_model.specs.Shown.{lies_over, lies_inside, shape_shown}

-- the newest that the serving nodes hold
abbrev pub newest_in : ClusterState → (ℕ → Node) → Content
newest_in s nodes = newest_of (serves s) (λ n id. stamp_of (fin.get (nodes n).entries id))

-- the round is over, the owner knows it, and it made of the nodes what its messages say
pub record IsRounded (d : Script) (s : ClusterState) (lane : Low) (distributor : ℕ) (J K : List LaneEvent) (old now : ℕ → Node) (number : ℕ) (r : RoundState) : Type 0 where
  pub has : HasRounded d J K old now s.version number r.row (newest_in s old)
  pub knows : KnowsRoundOf number lane K distributor s r
  pub over : IsOver r
  pub valid : (n : ℕ) → serves s n ≡ true → n < 32

-- all who serve answered; just the receivers were told the union, and all of them took it; the union is the newest that
-- is held; and each answer shows how the pieces of its node stood
pub record IsRoundNoted (s : ClusterState) (K : List LaneEvent) (old : ℕ → Node) (number : ℕ) (r : RoundState) : Type 0 where
  pub whole : HaveAllShown r.readers r.shown
  pub told : (n : ℕ) → was_told s.version number n K ≡ has_node r.receivers n
  pub holders : (n : ℕ) → has_node r.holders n ≡ has_node r.receivers n
  pub union : AreAlike r.row r.union (newest_in s old)
  pub shapes : (n : ℕ) → serves s n ≡ true → IsApart (old n).pieces → shape_shown r.row (pieces_by n r.shown) ≡ shape_of r.row (old n).pieces
  -- a node that shows a piece beside the row shows none that is the row
  pub over : (n : ℕ) → serves s n ≡ true → IsApart (old n).pieces → list_any (lies_over r.row) (pieces_by n r.shown) ≡ true → shape_shown r.row (pieces_by n r.shown) ≡ Over
  pub inside : (n : ℕ) → serves s n ≡ true → IsApart (old n).pieces → list_any (lies_inside r.row) (pieces_by n r.shown) ≡ true
      → (shape_shown r.row (pieces_by n r.shown) ≡ Over) ⊎ (shape_shown r.row (pieces_by n r.shown) ≡ Inside)
