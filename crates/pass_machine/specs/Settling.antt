-- What comes next for a row that is settled.
use Rattle.std.specs.Prelude.{◌==◌, ◌&&◌, not, nat_le, nat_lt, ℕ, ◌+◌, Bool, true, false, List, Option, Some, None, is_some, if◌then◌else◌}
use Rattle.std.specs.List.{find}
use Rattle.bucket_ids.specs.Buckets.{Low}
use Rattle.node_sets.specs.Members.{has_node}
use Rattle.messages.specs.declared.body.Body.{Body}
use Rattle.messages.specs.declared.body.Body.TheVariants as body
use Rattle.messages.specs.declared.decision.Decision.TheVariants.{ActiveOn, DeleteFrom, DeleteOver as DeleteIsOver}
use Rattle.bucket_db.specs.declared.row.Row.{Row}
use Rattle.bucket_db.specs.declared.row.Deleting.{Deleting as Delete}
use Rattle.lane_journals.specs.Sets.{count}
use Rattle.pass_machine.specs.declared.doing.Time.{Time}
use Rattle.pass_machine.specs.declared.doing.Settle.TheVariants.{Beginning, Aligning, AlignRound, Readying, Deciding, Activating, Deleting}
use Rattle.pass_machine.specs.declared.doing.Doing.{Doing}
use Rattle.pass_machine.specs.declared.doing.Doing.TheVariants.{Settling}
use Rattle.pass_machine.specs.declared.doing.UpkeepStep.TheVariants.{Tell, Decide, Accept}
use Rattle.pass_machine.specs.declared.doing.Turn.{Turn}
use Rattle.pass_machine.specs.declared.doing.Turn.TheVariants.{Over, Says}
use Rattle.pass_machine.specs.declared.notes.Exact.{Exact}
use Rattle.pass_machine.specs.declared.notes.RowNote.{RowNote}

-- the next row
abbrev pub next_row : Time → ℕ → Doing
next_row t at = Settling t (at + 1) Beginning

-- ---- align

-- what brings a node's pieces in line with the row, by what it showed; nothing if it took the union of the last round,
-- since the row is its piece
abbrev pub alignment_in : Low → RowNote → ℕ → Option Body
alignment_in b note n = if has_node note.holders n then None else (if has_node note.over n then Some (body.Split b) else if has_node note.inside n then Some (body.Join b) else None)

abbrev pub tell_or : ℕ → Option Body → Doing → Turn
tell_or n None next = Over next
tell_or n (Some b) next = Says (Tell n b)

-- where all nodes were asked there is a round if any was told something
abbrev pub aligned : Time → ℕ → Bool → Doing
aligned t at true = Settling t at AlignRound
aligned t at false = Settling t at (Readying 0 false)

-- each node that serves
abbrev pub aligning : Time → ℕ → Low → RowNote → Bool → ℕ → Bool → Turn
aligning t at b note serves n any =
    if nat_lt n 32
    then tell_or n (if serves then alignment_in b note n else None) (Settling t at (Aligning (n + 1) any))
    else Over (aligned t at any)

-- ---- ready and active

abbrev pub readying : Time → ℕ → Low → Bool → ℕ → Bool → Turn
readying t at b asked n ready =
    if nat_lt n 32
    then (if asked then Says (Tell n (body.Ready b)) else Over (Settling t at (Readying (n + 1) ready)))
    else Over (Settling t at (Deciding ready))

abbrev pub activate_or : ℕ → Low → Option ℕ → Doing → Turn
activate_or at b None next = Over next
activate_or at b (Some n) next = Says (Decide at (ActiveOn b n))

-- the node that is to be active becomes so, where it is ready and none is active yet
abbrev pub deciding : Time → ℕ → Row → Option ℕ → Bool → Turn
deciding t at row to_be ready = activate_or at row.bucket (if ready && not (is_some row.active) then to_be else None) (Settling t at Activating)

-- the active node is told so, if it serves and hasn't accepted yet
abbrev pub tell_active : Low → Bool → Option ℕ → (ℕ → Bool) → Doing → Turn
tell_active b accepted None serves next = Over next
tell_active b accepted (Some n) serves next = if not accepted && serves n then Says (Tell n (body.Activate b)) else Over next

abbrev pub activating : Time → ℕ → Row → (ℕ → Bool) → Turn
activating t at row serves = tell_active row.bucket row.accepted row.active serves (Settling t at (Deleting 0))

abbrev pub accepting : Time → ℕ → Bool → Turn
accepting t at true = Says (Accept at)
accepting t at false = Over (Settling t at (Deleting 0))

-- ---- delete

abbrev pub serial_of : Option Exact → Option ℕ
serial_of None = None
serial_of (Some x) = Some x.serial

-- the serial of the piece by which a node showed just the row
abbrev pub serial_among : List Exact → ℕ → Option ℕ
serial_among exact n = serial_of (find (λ (x : Exact). x.node == n) exact)

-- as many complete members but the node took the union of the last round as a write needs
abbrev pub are_enough : ℕ → Row → RowNote → ℕ → Bool
are_enough acks row note n = nat_le acks (count (λ m. has_node row.complete m && has_node note.holders m && not (m == n)))

-- the serial of the piece that the node is to delete; none while a Delete of the row has no answer, if the node is a
-- target, or if too few others keep the copy
abbrev pub serial_to_lose : Row → RowNote → Bool → ℕ → ℕ → Option ℕ
serial_to_lose row note target acks n = if is_some row.deleting then None else (if not target && are_enough acks row note n then serial_among (note.exact).items n else None)

-- the next node, or behind the last one the next row
abbrev pub next_node : Time → ℕ → ℕ → Doing
next_node t at n = if nat_lt n 32 then Settling t at (Deleting (n + 1)) else next_row t at

abbrev pub delete_or : ℕ → Low → ℕ → Option ℕ → Doing → Turn
delete_or at b n None next = Over next
delete_or at b n (Some serial) next = Says (Decide at (DeleteFrom b n serial))

abbrev pub deleting : Time → ℕ → Low → Option ℕ → ℕ → Turn
deleting t at b serial n = delete_or at b n serial (next_node t at n)

-- the unanswered Delete of the row
abbrev pub unanswered : Row → ℕ → Option Delete
unanswered row n = if nat_lt n 32 then row.deleting else None

-- it is sent, if its node serves
abbrev pub tell_delete : Option Delete → (ℕ → Bool) → Doing → Turn
tell_delete None serves next = Over next
tell_delete (Some d) serves next = if serves d.node then Says (Tell d.node (body.Delete d.bucket d.serial)) else Over next

abbrev pub delete_told : Time → ℕ → Row → (ℕ → Bool) → ℕ → Turn
delete_told t at row serves n = tell_delete (unanswered row n) serves (next_node t at n)

abbrev pub end_delete : ℕ → Option Delete → Doing → Turn
end_delete at None next = Over next
end_delete at (Some d) next = Says (Decide at (DeleteIsOver d.bucket d.node))

abbrev pub delete_over : Time → ℕ → Row → ℕ → Turn
delete_over t at row n = end_delete at (unanswered row n) (next_node t at n)
