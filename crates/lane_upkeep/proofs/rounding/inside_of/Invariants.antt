use Rattle.std.proofs.Common.{◌≡◌, ◌<◌, ◌≤◌, ℕ, false}
use Rattle.std.specs.List.{list_any}
use Rattle.node_sets.specs.Members.{has_node}
use Rattle.merge_rounds.specs.Rounds.{pieces_by}
use Rattle.lane_upkeep.specs.RoundNotes.{is_inside}
use Rattle.lane_upkeep.proofs.rounding.inside_of.Given as goal

-- the numbers below are there, the others not yet
abbrev pub invariant-loop-node : goal.invariant-loop-node
invariant-loop-node l = record {
  below : (n : ℕ) → n < l.node → has_node l.nodes n ≡ list_any (is_inside l.round.row) (pieces_by n l.round.shown);
  from : (n : ℕ) → l.node ≤ n → has_node l.nodes n ≡ false;
}
