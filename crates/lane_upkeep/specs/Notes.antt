-- What is known of a row from its last round.
use Rattle.std.specs.Prelude.{◌≡◌, ℕ, true, List, Contains, Some}
use Rattle.node_sets.specs.Members.{has_node}
use Rattle.cluster_states.specs.declared.cluster_state.ClusterState.{ClusterState}
use Rattle.lane_journals.specs.Readers.{Given, answer, round_of}
use Rattle.lane_journals.specs.Facts.{AnsweredApply}
use Rattle.lane_journals.specs.Meanings.{history}
use Rattle.lane_journals.specs.declared.event.LaneEvent.{LaneEvent}
use Rattle.pass_machine.specs.declared.notes.RowNote.{RowNote}
use Rattle.pass_machine.specs.declared.notes.Exact.{Exact}

-- the node showed just the row, with this serial
pub record ShowedExactly (J : List LaneEvent) (s : ClusterState) (note : RowNote) (x : Exact) : Type 0 where
  pub given : Given
  pub shown : answer s.version (round_of s.version note.bucket (history J)) x.node (history J) ≡ Some given
  pub names : given.names note.bucket x.serial ≡ true

pub record KnowsNote (J : List LaneEvent) (s : ClusterState) (note : RowNote) : Type 0 where
  pub exact_are : (x : Exact) → Contains note.exact.items x → ShowedExactly J s note x
  pub holders_are : (n : ℕ) → has_node note.holders n ≡ true → AnsweredApply s.version (round_of s.version note.bucket (history J)) n note.bucket (history J)
