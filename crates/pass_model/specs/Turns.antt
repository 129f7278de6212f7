-- A pass as a machine: where it stands, and what one turn makes of the nodes and the rows.
use Rattle.std.specs.Prelude.{◌==◌, ◌&&◌, ◌||◌, not, ℕ, zero, suc, ◌+◌, ◌-◌, ◌/◌, nat_le, nat_lt, Bool, true, false, List, [], ◌∷◌, Option, None, Some, slice_get, slice_set, if◌then◌else◌}
use Rattle.std.specs.List.{list_any, remove}
use Rattle.bucket_ids.specs.Buckets.{Low, first_child, second_child, parent_of}
use Rattle.bucket_ids.specs.Printed.{number_of}
use Rattle.pieces.specs.Pieces.{same_bucket}
use Rattle.lane_journals.specs.Readers.{or_else}
use Rattle.lane_rest.specs.Targets.{is_active}
use Rattle.pass_model.specs.Nodes.{Node, split_node, join_node, ready_node, can_ready, delete_node}
use Rattle.pass_model.specs.Shapes.{is_same}
use Rattle.pass_model.specs.Rows.{Settings, Row}
use Rattle.pass_model.specs.Settling.{Place, aligned, needs_align, is_asked, to_be_active, activate_nodes, could_activate, delete_shown, does_delete, round_at}
use Rattle.pass_model.specs.Passes.{World, merged, child_row}
use Rattle.pass_model.specs.Sweeps.{with_row, fewer}

-- ---- where it stands

-- a pass joins and settles twice, the second time only what joins made then
pub data Time : Type 0 where
  First : Time
  Again : List Low → Time

-- a Delete that has no answer yet
pub record Unanswered : Type 0 where
  pub node : ℕ
  pub bucket : Low
  pub serial : ℕ

-- what the machine does next. `at` is a place in the list of rows, `node` the node that may be told next
pub data Doing : Type 0 where
  -- Deletes that have no answer are sent again, and then they are over
  ResendingDelete : (deletes : List Unanswered) → Doing
  ResentDelete : (deletes : List Unanswered) → Doing
  -- the active node of each row is told so again, unless it accepted; and whether it answered now
  ResendingActivate : (at : ℕ) → Doing
  ResentActivate : (at : ℕ) (answered : Bool) → Doing
  -- a round of each row
  Rounding : (at : ℕ) → Doing
  -- pairs of rows of so many bits: a Join of the parent to each node, and its round
  Joining : (t : Time) (bits at : ℕ) → Doing
  JoinTold : (t : Time) (bits at : ℕ) (parent : Low) (node : ℕ) → Doing
  JoinRound : (t : Time) (bits at : ℕ) (parent : Low) → Doing
  -- rows with too many documents: a Split of the row to each node, and rounds of both children
  Splitting : (at : ℕ) → Doing
  SplitTold : (at : ℕ) (parent : Low) (node : ℕ) → Doing
  SplitFirst : (at : ℕ) (parent : Low) → Doing
  SplitSecond : (at : ℕ) (parent : Low) → Doing
  -- each row is settled: Split or Join, and one more round if any node was told so
  Settling : (t : Time) (at : ℕ) → Doing
  Aligning : (t : Time) (at node : ℕ) (any : Bool) → Doing
  AlignRound : (t : Time) (at : ℕ) → Doing
  -- Ready, and whether the node that is to be active answered it
  Readying : (t : Time) (at node : ℕ) (ready : Bool) → Doing
  Deciding : (t : Time) (at : ℕ) (ready : Bool) → Doing
  -- Activate, and whether it was answered
  Activating : (t : Time) (at : ℕ) → Doing
  Accepting : (t : Time) (at : ℕ) (answered : Bool) → Doing
  -- Deletes: a mark falls, the node is told, and that is over
  Deleting : (t : Time) (at node : ℕ) → Doing
  DeleteTold : (t : Time) (at node : ℕ) → Doing
  DeleteOver : (t : Time) (at node : ℕ) → Doing
  Finished : Doing

pub record Stand : Type 0 where
  pub doing : Doing
  pub world : World

abbrev pub stand : Doing → World → Stand
stand d w = record { doing = d; world = w }

-- the row is settled this time
abbrev pub is_due : Time → Low → Bool
is_due First b = true
is_due (Again made) b = list_any (same_bucket b) made

-- a join made one more row
abbrev pub with_made : Low → Time → Time
with_made p First = First
with_made p (Again made) = Again (p ∷ made)

-- ---- what a turn does

-- a message to one node
abbrev pub told : ℕ → (ℕ → Node → Node) → World → World
told node f w = record { nodes = λ n. if n == node then f n (w.nodes n) else w.nodes n; rows = w.rows }

-- a row of a place, and the nodes
abbrev pub with_place : ℕ → Place → World → World
with_place at x w = record { nodes = x.nodes; rows = slice_set w.rows at x.row }

abbrev pub with_place_row : ℕ → Row → World → World
with_place_row at r w = record { nodes = w.nodes; rows = slice_set w.rows at r }

-- what is done with the row of a place, if there is one
abbrev pub by_row : Option Row → Stand → (Row → Stand) → Stand
by_row None none some = none
by_row (Some r) none some = some r

abbrev pub round_of : Settings → ℕ → Row → World → World
round_of s at r w = with_place at (round_at s (record { nodes = w.nodes; row = r })) w

-- the first place of a row that is so, or the end
abbrev pub place_where : (Row → Bool) → List Row → ℕ
place_where is [] = 0
place_where is (r ∷ rs) = if is r then 0 else suc (place_where is rs)

-- where a row of the bucket stands: in rising number
abbrev pub place_of : Low → List Row → ℕ
place_of b rows = place_where (λ r. not (nat_lt (number_of r.bucket) (number_of b))) rows

-- a round of the row of a bucket, and on
abbrev pub round_then : Settings → Low → Doing → World → Stand
round_then s b next w = by_row (slice_get w.rows (place_of b w.rows)) (stand next w) (λ r. stand next (round_of s (place_of b w.rows) r w))

-- the active node is told so, if there is one and it didn't accept yet
abbrev pub activate_then : (Bool → Doing) → World → Row → Stand
activate_then next w r = stand (next (could_activate r.bucket w.nodes r.active)) (record { nodes = activate_nodes r w.nodes; rows = w.rows })

abbrev pub accepted_if : Bool → Row → Row
accepted_if answered r = record {
  bucket = r.bucket;
  complete = r.complete;
  active = r.active;
  accepted = r.accepted || answered;
  documents = r.documents;
  holders = r.holders;
  shown = r.shown;
}

-- ---- what is sent again

abbrev pub resend_delete : List Unanswered → World → Stand
resend_delete [] w = stand (ResendingActivate 0) w
resend_delete (d ∷ ds) w = stand (ResentDelete ds) (told d.node (λ n. delete_node d.bucket d.serial) w)

-- ---- joins

-- the pairs of the most bits come first
abbrev pub begin_joins : Time → World → Stand
begin_joins t w = stand (Joining t 58 (fewer 58 w.rows)) w

abbrev pub end_joins : Time → World → Stand
end_joins First w = stand (Splitting 0) w
end_joins (Again made) w = stand (Settling (Again made) 0) w

-- then those of one bit less; a row of one bit is in no pair
abbrev pub fewer_bits : Time → ℕ → World → Stand
fewer_bits t bits w = if nat_le bits 2 then end_joins t w else stand (Joining t (bits - 1) (fewer (bits - 1) w.rows)) w

abbrev pub is_same_node : Option ℕ → Option ℕ → Bool
is_same_node None None = true
is_same_node (Some m) (Some n) = m == n
is_same_node _ _ = false

-- the first half has so many bits, and both may become one row
abbrev pub is_pair : Settings → ℕ → Row → Row → Bool
is_pair s bits a b =
    (a.bucket.bits == bits)
    && (same_bucket a.bucket (first_child (parent_of a.bucket))
    && (same_bucket b.bucket (second_child (parent_of a.bucket))
    && (nat_le s.lane_bits (parent_of a.bucket).bits && (is_same_node a.active b.active && nat_le (a.documents + b.documents) (s.split_at / 2)))))

-- where the second half stands among the other rows
abbrev pub place_beside : Settings → ℕ → ℕ → Row → List Row → ℕ
place_beside s bits at a rows = place_where (is_pair s bits a) (remove rows at)

-- the halves go, and the parent comes
abbrev pub without_pair : ℕ → ℕ → List Row → List Row
without_pair at other rows = remove (remove rows at) other

abbrev pub join_at : Settings → Time → ℕ → ℕ → World → Row → Stand
join_at s t bits at w a =
    by_row (slice_get (remove w.rows at) (place_beside s bits at a w.rows)) (stand (Joining t bits (suc at)) w) (λ b.
    stand (JoinTold t bits at (parent_of a.bucket) 0)
    (record { nodes = w.nodes; rows = with_row (merged (parent_of a.bucket) a b) (without_pair at (place_beside s bits at a w.rows) w.rows) }))

abbrev pub joining : Settings → Time → ℕ → ℕ → World → Stand
joining s t bits at w = if nat_lt at (fewer (bits + 1) w.rows) then by_row (slice_get w.rows at) (fewer_bits t bits w) (join_at s t bits at w) else fewer_bits t bits w

abbrev pub join_one : Settings → Low → ℕ → Node → Node
join_one s p n x = if s.serving n then join_node p x else x

abbrev pub join_told : Settings → Time → ℕ → ℕ → Low → ℕ → World → Stand
join_told s t bits at p node w = if nat_lt node 32 then stand (JoinTold t bits at p (suc node)) (told node (join_one s p) w) else stand (JoinRound t bits at p) w

-- ---- splits

abbrev pub is_full : Settings → Row → Bool
is_full s r = nat_lt r.bucket.bits 58 && nat_lt s.split_at r.documents

-- the row goes, and its children come
abbrev pub with_children : ℕ → Row → List Row → List Row
with_children at r rows = with_row (child_row (second_child r.bucket) r) (with_row (child_row (first_child r.bucket) r) (remove rows at))

abbrev pub split_at_place : Settings → ℕ → World → Row → Stand
split_at_place s at w r = if is_full s r then stand (SplitTold at r.bucket 0) (record { nodes = w.nodes; rows = with_children at r w.rows }) else stand (Splitting (suc at)) w

abbrev pub split_one : Settings → Low → ℕ → Node → Node
split_one s b n x = if s.serving n then split_node (first_child b) x else x

abbrev pub split_told : Settings → ℕ → Low → ℕ → World → Stand
split_told s at b node w = if nat_lt node 32 then stand (SplitTold at b (suc node)) (told node (split_one s b) w) else stand (SplitFirst at b) w

-- ---- settling

abbrev pub end_settling : Time → World → Stand
end_settling First w = begin_joins (Again []) w
end_settling (Again made) w = stand Finished w

abbrev pub settle_next : Time → ℕ → World → Row → Stand
settle_next t at w r = if is_due t r.bucket then stand (Aligning t at 0 false) w else stand (Settling t (suc at)) w

abbrev pub align_one : Settings → Row → ℕ → Node → Node
align_one s r n x = if needs_align s r n then aligned r.bucket (r.shown n) x else x

abbrev pub aligning : Settings → Time → ℕ → ℕ → Bool → World → Row → Stand
aligning s t at node any w r =
    if nat_lt node 32
    then stand (Aligning t at (suc node) (needs_align s r node || any)) (told node (align_one s r) w)
    else (if any then stand (AlignRound t at) w else stand (Readying t at 0 false) w)

abbrev pub ready_one : Settings → Row → ℕ → Node → Node
ready_one s r n x = if is_asked s r n then ready_node r.bucket x else x

abbrev pub readying : Settings → Time → ℕ → ℕ → Bool → World → Row → Stand
readying s t at node ready w r =
    if nat_lt node 32
    then stand (Readying t at (suc node) (if is_active (to_be_active s r) node then can_ready r.bucket (w.nodes node) else ready)) (told node (ready_one s r) w)
    else stand (Deciding t at ready) w

abbrev pub if_answered : Bool → Option ℕ → Option ℕ
if_answered true active = active
if_answered false active = None

-- the node that is to be active becomes so, if it is ready
abbrev pub decided : Settings → Bool → Row → Row
decided s ready r = record {
  bucket = r.bucket;
  complete = r.complete;
  active = or_else r.active (if_answered ready (to_be_active s r));
  accepted = r.accepted;
  documents = r.documents;
  holders = r.holders;
  shown = r.shown;
}

-- the node showed just the row, and is to have nothing of it
abbrev pub does_lose : Settings → Row → ℕ → Bool
does_lose s r n = does_delete s r n && is_same (r.shown n)

abbrev pub unmarked : ℕ → Row → Row
unmarked node r = record {
  bucket = r.bucket;
  complete = λ n. r.complete n && not (n == node);
  active = r.active;
  accepted = r.accepted;
  documents = r.documents;
  holders = r.holders;
  shown = r.shown;
}

abbrev pub deleting : Settings → Time → ℕ → ℕ → World → Row → Stand
deleting s t at node w r =
    if nat_lt node 32
    then (if does_lose s r node then stand (DeleteTold t at node) (with_place_row at (unmarked node r) w) else stand (Deleting t at (suc node)) w)
    else stand (Settling t (suc at)) w

abbrev pub delete_told : Time → ℕ → ℕ → World → Row → Stand
delete_told t at node w r = stand (DeleteOver t at node) (told node (λ n. delete_shown r.bucket (r.shown n)) w)

-- ---- the turn

-- something with the row of the place that is settled; where there is none, the next place
abbrev pub settled_at : Time → ℕ → World → (Row → Stand) → Stand
settled_at t at w f = by_row (slice_get w.rows at) (stand (Settling t (suc at)) w) f

abbrev pub turn_at : Settings → Doing → World → Stand
turn_at s (ResendingDelete deletes) w = resend_delete deletes w
turn_at s (ResentDelete deletes) w = stand (ResendingDelete deletes) w
turn_at s (ResendingActivate at) w = by_row (slice_get w.rows at) (stand (Rounding 0) w) (activate_then (ResentActivate at) w)
turn_at s (ResentActivate at answered) w = by_row (slice_get w.rows at) (stand (ResendingActivate (suc at)) w) (λ r. stand (ResendingActivate (suc at)) (with_place_row at (accepted_if answered r) w))
turn_at s (Rounding at) w = by_row (slice_get w.rows at) (begin_joins First w) (λ r. stand (Rounding (suc at)) (round_of s at r w))
turn_at s (Joining t bits at) w = joining s t bits at w
turn_at s (JoinTold t bits at p node) w = join_told s t bits at p node w
turn_at s (JoinRound t bits at p) w = round_then s p (Joining (with_made p t) bits (suc at)) w
turn_at s (Splitting at) w = by_row (slice_get w.rows at) (stand (Settling First 0) w) (split_at_place s at w)
turn_at s (SplitTold at b node) w = split_told s at b node w
turn_at s (SplitFirst at b) w = round_then s (first_child b) (SplitSecond at b) w
turn_at s (SplitSecond at b) w = round_then s (second_child b) (Splitting at) w
turn_at s (Settling t at) w = by_row (slice_get w.rows at) (end_settling t w) (settle_next t at w)
turn_at s (Aligning t at node any) w = settled_at t at w (aligning s t at node any w)
turn_at s (AlignRound t at) w = settled_at t at w (λ r. stand (Readying t at 0 false) (round_of s at r w))
turn_at s (Readying t at node ready) w = settled_at t at w (readying s t at node ready w)
turn_at s (Deciding t at ready) w = settled_at t at w (λ r. stand (Activating t at) (with_place_row at (decided s ready r) w))
turn_at s (Activating t at) w = settled_at t at w (activate_then (Accepting t at) w)
turn_at s (Accepting t at answered) w = settled_at t at w (λ r. stand (Deleting t at 0) (with_place_row at (accepted_if answered r) w))
turn_at s (Deleting t at node) w = settled_at t at w (deleting s t at node w)
turn_at s (DeleteTold t at node) w = settled_at t at w (delete_told t at node w)
turn_at s (DeleteOver t at node) w = stand (Deleting t at (suc node)) w
turn_at s Finished w = stand Finished w

-- just one turn comes next
unfoldable pub turn : Settings → Stand → Stand
turn s x = turn_at s x.doing x.world

-- so many turns
unfoldable pub turns : Settings → ℕ → Stand → Stand
turns s zero x = x
turns s (suc many) x = turns s many (turn s x)
