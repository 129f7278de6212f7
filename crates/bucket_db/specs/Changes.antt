-- What the calls make of the rows.
use Rattle.std.specs.Prelude.{◌≡◌, ◌⊎◌, ◌==◌, ℕ, zero, suc, ◌<◌, Bool, ◌&&◌, not, nat_lt, List, [], ◌∷◌, Option, Some, None, slice_get, IfSome, if◌then◌else◌}
use Rattle.std.specs.List.{Contains, filter, remove}
use Rattle.bucket_ids.specs.Buckets.{Low, covers, first_child, second_child, parent_of, sibling_of}
use Rattle.bucket_ids.specs.Printed.{number_of}
use Rattle.node_sets.specs.Members.{has_node}
use Rattle.bucket_db.specs.Rows.{Rows}
use Rattle.bucket_db.specs.declared.row.Deleting.{Deleting}
use Rattle.bucket_db.specs.declared.row.Row.{Row}

-- x comes before the first of a greater or equal number
abbrev pub placed : {X : Type 0} → (X → ℕ) → X → List X → List X
placed number x [] = x ∷ []
placed number x (y ∷ ys) =
    if nat_lt (number y) (number x) then y ∷ placed number x ys else x ∷ y ∷ ys

-- the row comes where its number puts it
abbrev pub with_row : Row → List Row → List Row
with_row = placed (λ r. number_of r.bucket)

-- the row of a child inherits all but the bucket
abbrev pub first_half : Row → Row
first_half r = record r { bucket = first_child r.bucket }

abbrev pub second_half : Row → Row
second_half r = record r { bucket = second_child r.bucket }

-- the row goes, and its halves come
abbrev pub with_halves : Option Row → List Row → List Row
with_halves None rest = rest
with_halves (Some r) rest = with_row (second_half r) (with_row (first_half r) rest)

abbrev pub split_at : ℕ → List Row → List Row
split_at at rows = with_halves (slice_get rows at) (remove rows at)

-- the row that two siblings make: the common marks, the active node of both, which accepted where it did so in
-- both, and the Delete of either
pub record IsJoined (row other joined : Row) : Type 0 where
  pub bucket : joined.bucket ≡ parent_of row.bucket
  pub complete : (node : ℕ)
      → has_node joined.complete node ≡ (has_node row.complete node && has_node other.complete node)
  pub active : joined.active ≡ row.active
  pub accepted : joined.accepted ≡ (row.accepted && other.accepted)
  pub own_delete : other.deleting ≡ None → joined.deleting ≡ row.deleting
  pub other_delete : row.deleting ≡ None → joined.deleting ≡ other.deleting

-- a row and its sibling may be joined
pub record IsJoinable (lane : Low) (rows : List Row) (row other : Row) : Type 0 where
  pub is_row : Contains rows other
  pub sibling : other.bucket ≡ sibling_of row.bucket
  pub inside : lane.bits < row.bucket.bits
  pub active : row.active ≡ other.active
  pub deletes : (row.deleting ≡ None) ⊎ (other.deleting ≡ None)

-- the row of a place may be joined with another
abbrev pub CanJoin : Rows → ℕ → Type 0
CanJoin d at = IfSome (slice_get d.rows at) (λ row. (other : Row) × IsJoinable d.lane d.rows row other)

-- the other row has the sibling's bucket, and neither marks nor Deletes stand against a join
abbrev pub MayJoin : Row → Low → Row → Type 0
MayJoin row sibling other =
    (other.bucket ≡ sibling) × ((row.active ≡ other.active) × ((row.deleting ≡ None) ⊎ (other.deleting ≡ None)))

-- the rows inside the joined one go, and it comes
abbrev pub with_joined : Row → List Row → List Row
with_joined joined rows = with_row joined (filter (λ r. not (covers joined.bucket r.bucket)) rows)

-- the row of a place changes
abbrev pub at_row : ℕ → (Row → Row) → List Row → List Row
at_row at change [] = []
at_row zero change (r ∷ rows) = change r ∷ rows
at_row (suc at) change (r ∷ rows) = r ∷ at_row at change rows

-- the Delete is for the bucket and to the node
abbrev pub is_delete : Low → ℕ → Deleting → Bool
is_delete bucket node d = (d.bucket.bits == bucket.bits && d.bucket.low == bucket.low) && d.node == node

-- such a Delete has its answer, any other hasn't
abbrev pub after_delete : Low → ℕ → Option Deleting → Option Deleting
after_delete bucket node None = None
after_delete bucket node (Some d) = if is_delete bucket node d then None else Some d

abbrev pub without_delete : Low → ℕ → Row → Row
without_delete bucket node r = record r { deleting = after_delete bucket node r.deleting }

-- the lane with other rows
abbrev pub with_rows : Rows → List Row → Rows
with_rows d rows = record d { rows = rows }
