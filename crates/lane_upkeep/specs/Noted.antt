-- The notes of a pass: what is known of each from the last round of its row.
use Rattle.std.specs.Prelude.{◌≡◌, ℕ, List, Some}
use Rattle.std.specs.Ordering.{nat_cmp}
use Rattle.std.specs.BTreeMap as tree
use Rattle.std.specs.BTreeMap.{BTreeMap}
use Rattle.bucket_ids.specs.Buckets.{IsBucket}
use Rattle.bucket_ids.specs.Printed.{number_of}
use Rattle.cluster_states.specs.declared.cluster_state.ClusterState.{ClusterState}
use Rattle.lane_journals.specs.declared.event.LaneEvent.{LaneEvent}
use Rattle.lane_states.specs.declared.lane_state.LaneState.{LaneState}
use Rattle.lane_states.specs.LaneStates.{journal_of}
use Rattle.lane_upkeep.specs.declared.owner.Owner.{Owner}
use Rattle.pass_machine.specs.declared.notes.RowNote.{RowNote}
use Rattle.lane_upkeep.specs.Notes.{KnowsNote}

-- a note stands by the number of its bucket, and is what the journal says
pub record IsNoted (J : List LaneEvent) (s : ClusterState) (number : ℕ) (note : RowNote) : Type 0 where
  pub numbered : number_of note.bucket ≡ number
  pub valid : IsBucket note.bucket
  pub knows : KnowsNote J s note

abbrev pub AreNotes : List LaneEvent → ClusterState → BTreeMap ℕ RowNote → Type 0
AreNotes J s notes = (number : ℕ) (note : RowNote) → tree.get nat_cmp notes number ≡ Some note → IsNoted J s number note

-- what is known from a round stays so
abbrev pub StaysKnown : LaneState → LaneState → Owner → Type 0
StaysKnown c e o = (note : RowNote) → KnowsNote (journal_of c) o.state note → KnowsNote (journal_of e) o.state note
