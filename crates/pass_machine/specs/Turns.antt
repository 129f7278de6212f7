-- What comes where the machine stands.
use Rattle.std.specs.Prelude.{◌≡◌, ◌==◌, ◌&&◌, ◌||◌, not, ℕ, ◌+◌, ◌-◌, nat_le, length, Bool, true, false, List, take, Option, Some, None, is_some, nat_lt, slice_get, if◌then◌else◌}
use Rattle.std.specs.Ordering.{nat_cmp}
use Rattle.std.specs.BTreeMap.{BTreeMap, get}
use Rattle.bucket_ids.specs.Buckets.{Low, first_child, second_child, parent_of}
use Rattle.bucket_ids.specs.Printed.{number_of}
use Rattle.node_sets.specs.Members.{has_node}
use Rattle.cluster_states.specs.declared.cluster_state.ClusterState.{ClusterState}
use Rattle.cluster_states.specs.Publishing.{serves}
use Rattle.ideal_nodes.specs.Placement.{IsIdeal}
use Rattle.messages.specs.declared.body.Body.{Body}
use Rattle.messages.specs.declared.body.Body.TheVariants as body
use Rattle.messages.specs.declared.decision.Decision.{Decision}
use Rattle.messages.specs.declared.decision.Decision.TheVariants.{RowSplit, RowsJoined}
use Rattle.bucket_db.specs.declared.row.Row.{Row}
use Rattle.bucket_db.specs.declared.row.Deleting.{Deleting as Delete}
use Rattle.distributor_part.specs.declared.rules.Rules.{Rules}
use Rattle.distributor_part.specs.Parts.{Part, rows_of}
use Rattle.lane_journals.specs.Readers.{or_else}
use Rattle.lane_rest.specs.Targets.{is_member, is_active, is_target_in}
use Rattle.pass_model.specs.Settling.{first_in}
use Rattle.pass_machine.specs.declared.doing.Time.{Time}
use Rattle.pass_machine.specs.declared.doing.Time.TheVariants.{First, Again}
use Rattle.pass_machine.specs.declared.doing.Settle.{Settle}
use Rattle.pass_machine.specs.declared.doing.Settle.TheVariants as settle
use Rattle.pass_machine.specs.declared.doing.Doing.{Doing}
use Rattle.pass_machine.specs.declared.doing.Doing.TheVariants.{ResendingDelete, ResentDelete, ResendingActivate, ResentActivate, Rounding, Joining, JoinTold, JoinRound, Splitting, SplitTold, SplitFirst, SplitSecond, Settling, Finished}
use Rattle.pass_machine.specs.declared.doing.UpkeepStep.TheVariants as step
use Rattle.pass_machine.specs.declared.doing.Turn.{Turn}
use Rattle.pass_machine.specs.declared.doing.Turn.TheVariants.{Over, Says}
use Rattle.pass_machine.specs.declared.notes.RowNote.{RowNote}
use Rattle.pass_machine.specs.Notes.{note_for, whole_in, documents_in}
use Rattle.pass_machine.specs.Places.{first_with, place_of, next_place, can_join, are_small, is_first_half, is_full_by, was_sent}
use Rattle.pass_machine.specs.Settling.{next_row, aligning, readying, deciding, activating, accepting, serial_to_lose, deleting, delete_told, delete_over, tell_active, end_delete}

-- ---- what the machine reads

-- the state, the rules, the lane and the rows of the owner, and the ideal order of each bucket
pub record View : Type 0 where
  pub state : ClusterState
  pub rules : Rules
  pub lane : Low
  pub rows : List Row
  pub ideal : Low → List ℕ

-- it is that of the owner's part
pub record Sees (p : Part) (v : View) : Type 0 where
  pub heard : p.state ≡ Some v.state
  pub rules : p.rules ≡ v.rules
  pub lane : p.lane ≡ v.lane
  pub rows : rows_of p.rows ≡ v.rows
  pub ideal : (b : Low) → IsIdeal b v.state (v.ideal b)

-- the active node, or the first complete member in ideal order
abbrev pub to_be_active : View → Row → Option ℕ
to_be_active v row = or_else row.active (first_in (v.ideal row.bucket) (λ n. has_node row.complete n))

-- it serves, and is among the first in ideal order, as many as are to be ready, or is to be active
abbrev pub is_asked : View → Row → ℕ → Bool
is_asked v row n = serves v.state n && (is_member (take (v.rules).searchable (v.ideal row.bucket)) n || is_active (to_be_active v row) n)

abbrev pub is_target : View → Row → ℕ → Bool
is_target v row n = is_target_in (v.rules).redundancy (v.ideal row.bucket) row.active n

-- ---- a row that is settled

-- the second time just those that joins made
abbrev pub is_due : BTreeMap ℕ (Unit {0}) → Time → Low → Bool
is_due made First b = true
is_due made Again b = is_some (get nat_cmp made (number_of b))

abbrev pub beginning : BTreeMap ℕ (Unit {0}) → Time → ℕ → Low → Doing
beginning made t at b = if is_due made t b then Settling t at (settle.Aligning 0 false) else next_row t at

abbrev pub settle_turn : View → BTreeMap ℕ (Unit {0}) → Time → ℕ → Row → RowNote → Settle → Turn
settle_turn v made t at row note settle.Beginning = Over (beginning made t at row.bucket)
settle_turn v made t at row note (settle.Aligning n any) = aligning t at row.bucket note (serves v.state n) n any
settle_turn v made t at row note settle.AlignRound = Says (step.Round at)
settle_turn v made t at row note (settle.Readying n ready) = readying t at row.bucket (is_asked v row n) n ready
settle_turn v made t at row note (settle.Deciding ready) = deciding t at row (to_be_active v row) ready
settle_turn v made t at row note settle.Activating = activating t at row (serves v.state)
settle_turn v made t at row note (settle.Accepting answered) = accepting t at answered
settle_turn v made t at row note (settle.Deleting n) = deleting t at row.bucket (if nat_lt n 32 then serial_to_lose row note (is_target v row n) (v.rules).acks n else None) n
settle_turn v made t at row note (settle.DeleteTold n) = delete_told t at row (serves v.state) n
settle_turn v made t at row note (settle.DeleteOver n) = delete_over t at row n

-- a row whose last round wasn't whole is left
abbrev pub by_note : View → BTreeMap ℕ (Unit {0}) → Time → ℕ → Row → Option RowNote → Settle → Turn
by_note v made t at row None next = Over (next_row t at)
by_note v made t at row (Some note) next = settle_turn v made t at row note next

-- the rows of the most bits are joined first
abbrev pub begin_joins : View → Time → Doing
begin_joins v t = Joining t 58 (first_with 58 v.rows)

-- behind the last row
abbrev pub end_settling : View → Time → Doing
end_settling v First = begin_joins v Again
end_settling v Again = Finished

abbrev pub by_row : View → BTreeMap ℕ (Unit {0}) → BTreeMap ℕ RowNote → Time → ℕ → Option Row → Settle → Turn
by_row v made notes t at None next = Over (end_settling v t)
by_row v made notes t at (Some row) next = by_note v made t at row (whole_in (note_for row.bucket notes)) next

-- ---- what is sent again

abbrev pub resend_delete : View → ℕ → Option Delete → Turn
resend_delete v at None = Over (ResendingDelete (at + 1))
resend_delete v at (Some d) = if not (was_sent v.rows at d) && serves v.state d.node then Says (step.Tell d.node (body.Delete d.bucket d.serial)) else Over (ResendingDelete (at + 1))

abbrev pub resending_delete : View → ℕ → Option Row → Turn
resending_delete v at None = Over (ResendingActivate 0)
resending_delete v at (Some row) = resend_delete v at row.deleting

abbrev pub resent_delete : View → ℕ → Option Row → Turn
resent_delete v at None = Over (ResendingActivate 0)
resent_delete v at (Some row) = end_delete at row.deleting (ResendingDelete (at + 1))

abbrev pub resending_activate : View → ℕ → Option Row → Turn
resending_activate v at None = Over (Rounding 0)
resending_activate v at (Some row) = tell_active row.bucket row.accepted row.active (serves v.state) (ResendingActivate (at + 1))

abbrev pub resent_activate : ℕ → Bool → Option Row → Turn
resent_activate at answered None = Over (Rounding 0)
resent_activate at answered (Some row) = if answered then Says (step.Accept at) else Over (ResendingActivate (at + 1))

-- ---- rounds

abbrev pub round_or : ℕ → Option Row → Doing → Turn
round_or at None next = Over next
round_or at (Some row) next = Says (step.Round at)

-- a round of the row of a bucket
abbrev pub round_of : View → Low → Doing → Turn
round_of v b next = round_or (place_of b v.rows) (slice_get v.rows (place_of b v.rows)) next

-- ---- joins

abbrev pub end_joins : Time → Doing
end_joins First = Splitting 0
end_joins Again = Settling Again 0 settle.Beginning

-- then come those of one bit less; a row of one bit has no sibling in the lane
abbrev pub fewer_bits : View → Time → ℕ → Doing
fewer_bits v t bits = if nat_le bits 2 then end_joins t else Joining t (bits - 1) (first_with (bits - 1) v.rows)

-- the row has so many bits, is the first half of one, and may be joined with the other half
abbrev pub does_join : View → BTreeMap ℕ RowNote → ℕ → Row → Bool
does_join v notes bits row = (row.bucket.bits == bits && nat_lt 1 bits) && (is_first_half row.bucket && (can_join v.lane v.rows row && are_small notes row.bucket (v.rules).split_at))

abbrev pub joining : View → BTreeMap ℕ RowNote → Time → ℕ → ℕ → Option Row → Turn
joining v notes t bits at None = Over (fewer_bits v t bits)
joining v notes t bits at (Some row) =
    if nat_lt bits row.bucket.bits then Over (fewer_bits v t bits)
    else (if does_join v notes bits row then Says (step.Decide at (RowsJoined (parent_of row.bucket))) else Over (Joining t bits (at + 1)))

abbrev pub tell_all : View → ℕ → Body → Doing → Doing → Turn
tell_all v n b next last = if nat_lt n 32 then (if serves v.state n then Says (step.Tell n b) else Over next) else Over last

-- ---- splits

abbrev pub splitting : View → BTreeMap ℕ RowNote → ℕ → Option Row → Turn
splitting v notes at None = Over (Settling First 0 settle.Beginning)
splitting v notes at (Some row) = if is_full_by (v.rules).split_at row.bucket.bits (documents_in (note_for row.bucket notes)) then Says (step.Decide at (RowSplit row.bucket)) else Over (Splitting (at + 1))

-- ---- wherever it stands

abbrev pub turn_at : View → BTreeMap ℕ (Unit {0}) → BTreeMap ℕ RowNote → Doing → Turn
turn_at v made notes (ResendingDelete at) = resending_delete v at (slice_get v.rows at)
turn_at v made notes (ResentDelete at) = resent_delete v at (slice_get v.rows at)
turn_at v made notes (ResendingActivate at) = resending_activate v at (slice_get v.rows at)
turn_at v made notes (ResentActivate at answered) = resent_activate at answered (slice_get v.rows at)
turn_at v made notes (Rounding at) = round_or at (slice_get v.rows at) (begin_joins v First)
turn_at v made notes (Joining t bits at) = joining v notes t bits at (slice_get v.rows at)
turn_at v made notes (JoinTold t bits at p n) = tell_all v n (body.Join p) (JoinTold t bits at p (n + 1)) (JoinRound t bits at p)
turn_at v made notes (JoinRound t bits at p) = round_of v p (Joining t bits (next_place (length v.rows) at))
turn_at v made notes (Splitting at) = splitting v notes at (slice_get v.rows at)
turn_at v made notes (SplitTold at b c n) = tell_all v n (body.Split b) (SplitTold at b c (n + 1)) (SplitFirst at b c)
turn_at v made notes (SplitFirst at b c) = round_of v b (SplitSecond at c)
turn_at v made notes (SplitSecond at c) = round_of v c (Splitting at)
turn_at v made notes (Settling t at next) = by_row v made notes t at (slice_get v.rows at) next
turn_at v made notes Finished = Says step.Finished

-- ---- what comes of a step

abbrev pub to_be_active_in : View → Option Row → Option ℕ
to_be_active_in v None = None
to_be_active_in v (Some row) = to_be_active v row

abbrev pub is_to_be_active : View → ℕ → ℕ → Bool
is_to_be_active v at n = is_active (to_be_active_in v (slice_get v.rows at)) n

-- behind a message for a row that is settled: whether it was answered, or ended by its reply where it is a Delete. What
-- has no answer is left out
abbrev pub answered_row : View → ℕ → Bool → Settle → Settle
answered_row v at taken (settle.Aligning n any) = settle.Aligning (n + 1) true
answered_row v at taken (settle.Readying n ready) = settle.Readying (n + 1) (if is_to_be_active v at n then taken else ready)
answered_row v at taken settle.Activating = settle.Accepting taken
answered_row v at taken (settle.DeleteTold n) = if taken then settle.DeleteOver n else settle.Deleting (n + 1)
answered_row v at taken next = next

-- behind a decision on it
abbrev pub decided_row : Settle → Settle
decided_row (settle.Deciding ready) = settle.Activating
decided_row (settle.Accepting accepted) = settle.Deleting 0
decided_row (settle.Deleting n) = settle.DeleteTold n
decided_row (settle.DeleteOver n) = settle.Deleting (n + 1)
decided_row next = next

-- behind any message, decision, acceptance and round; the rows of the view are those that they leave
abbrev pub answered : View → Bool → Doing → Doing
answered v taken (ResendingDelete at) = if taken then ResentDelete at else ResendingDelete (at + 1)
answered v taken (ResendingActivate at) = ResentActivate at taken
answered v taken (JoinTold t bits at p n) = JoinTold t bits at p (n + 1)
answered v taken (SplitTold at b c n) = SplitTold at b c (n + 1)
answered v taken (Settling t at next) = Settling t at (answered_row v at taken next)
answered v taken d = d

-- each node is told of the row that a join makes, and of the first half of a row that is split
abbrev pub joined : Time → ℕ → ℕ → Decision → Doing
joined t bits at (RowsJoined p) = JoinTold t bits at p 0
joined t bits at x = Joining t bits at

abbrev pub parted : ℕ → Decision → Doing
parted at (RowSplit b) = SplitTold at (first_child b) (second_child b) 0
parted at x = Splitting at

abbrev pub decided : Doing → Decision → Doing
decided (ResentDelete at) x = ResendingDelete (at + 1)
decided (Joining t bits at) x = joined t bits at x
decided (Splitting at) x = parted at x
decided (Settling t at next) x = Settling t at (decided_row next)
decided d x = d

abbrev pub accepted : Doing → Doing
accepted (ResentActivate at taken) = ResendingActivate (at + 1)
accepted (Settling t at next) = Settling t at (decided_row next)
accepted d = d

abbrev pub rounded : View → Doing → Doing
rounded v (Rounding at) = Rounding (at + 1)
rounded v (JoinRound t bits at p) = Joining t bits (next_place (length v.rows) at)
rounded v (SplitFirst at b c) = SplitSecond at c
rounded v (SplitSecond at c) = Splitting at
rounded v (Settling t at settle.AlignRound) = Settling t at (settle.Readying 0 false)
rounded v d = d
