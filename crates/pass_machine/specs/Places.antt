-- What is asked of rows where they are joined, split and sent something again.
use Rattle.std.specs.Prelude.{◌==◌, ◌&&◌, not, ◌+◌, ◌/◌, nat_le, nat_lt, ℕ, Bool, true, false, List, take, Option, Some, None, is_some, if◌then◌else◌}
use Rattle.std.specs.List.{list_any, prefix_len}
use Rattle.std.specs.BTreeMap.{BTreeMap}
use Rattle.bucket_ids.specs.Buckets.{Low, first_child, parent_of, sibling_of}
use Rattle.bucket_ids.specs.Printed.{number_of}
use Rattle.pieces.specs.Pieces.{same_bucket}
use Rattle.bucket_db.specs.declared.row.Row.{Row}
use Rattle.bucket_db.specs.declared.row.Deleting.{Deleting as Delete}
use Rattle.pass_machine.specs.declared.notes.RowNote.{RowNote}
use Rattle.pass_machine.specs.Notes.{note_for, documents_in}

-- ---- places

-- where the rows of at least so many bits begin, since they stand in rising number
abbrev pub first_with : ℕ → List Row → ℕ
first_with bits rows = prefix_len (λ r. nat_lt r.bucket.bits bits) rows

-- where the row of a bucket stands
abbrev pub place_of : Low → List Row → ℕ
place_of b rows = prefix_len (λ r. nat_lt (number_of r.bucket) (number_of b)) rows

-- the next place, if there is a row at this one
abbrev pub next_place : ℕ → ℕ → ℕ
next_place many at = if nat_lt at many then at + 1 else at

-- ---- joins

abbrev pub is_same_node : Option ℕ → Option ℕ → Bool
is_same_node None None = true
is_same_node (Some m) (Some n) = m == n
is_same_node _ _ = false

-- the other row is the sibling, with the same active node or none, and not both have a Delete
abbrev pub is_sibling : Row → Row → Bool
is_sibling row other = same_bucket other.bucket (sibling_of row.bucket) && (is_same_node row.active other.active && not (is_some row.deleting && is_some other.deleting))

abbrev pub can_join : Low → List Row → Row → Bool
can_join lane rows row = nat_lt lane.bits row.bucket.bits && list_any (is_sibling row) rows

-- both numbers are known, and together at most half of what a row may have, rounded down
abbrev pub are_few : Option ℕ → Option ℕ → ℕ → Bool
are_few (Some one) (Some other) most = nat_le (one + other) (most / 2)
are_few _ _ most = false

-- a row and its sibling had whole rounds, and have few enough documents together
abbrev pub are_small : BTreeMap ℕ RowNote → Low → ℕ → Bool
are_small notes b most = are_few (documents_in (note_for b notes)) (documents_in (note_for (sibling_of b) notes)) most

abbrev pub is_first_half : Low → Bool
is_first_half b = same_bucket b (first_child (parent_of b))

-- ---- splits

-- a row of fewer than 58 bits has more documents than it may
abbrev pub is_full_by : ℕ → ℕ → Option ℕ → Bool
is_full_by split_at bits None = false
is_full_by split_at bits (Some documents) = nat_lt bits 58 && nat_lt split_at documents

-- ---- Deletes that are sent again

abbrev pub is_same_delete : Delete → Option Delete → Bool
is_same_delete d None = false
is_same_delete d (Some e) = same_bucket d.bucket e.bucket && (d.node == e.node && d.serial == e.serial)

-- a row before the place has the same Delete, so that it was sent again before
abbrev pub was_sent : List Row → ℕ → Delete → Bool
was_sent rows at d = list_any (λ r. is_same_delete d r.deleting) (take at rows)
