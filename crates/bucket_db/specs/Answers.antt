-- The rows that answers give: the coarsest partition such that no answer lies strictly inside a row.
use Rattle.std.specs.Prelude.{◌≡◌, Bool, true, false, ◌&&◌, nat_lt, List, None}
use Rattle.std.specs.List.{AllByRecursion, list_any}
use Rattle.bucket_ids.specs.Buckets.{Low, covers}
use Rattle.bucket_db.specs.Rows.{AreBuckets, IsPartition}
use Rattle.bucket_db.specs.declared.row.Row.{Row}

-- the second bucket lies strictly inside the first
abbrev pub is_inside : Low → Low → Bool
is_inside b a = nat_lt b.bits a.bits && covers b a

-- some answer lies strictly inside the bucket
abbrev pub divides : List Low → Low → Bool
divides answers b = list_any (is_inside b) answers

-- no answer lies strictly inside any of the buckets
abbrev pub NoneDivided : List Low → List Low → Type 0
NoneDivided answers buckets = list_any (divides answers) buckets ≡ false

-- each of the first buckets lies in one of the others
abbrev pub IsFiner : List Low → List Low → Type 0
IsFiner buckets others = AllByRecursion (λ b. list_any (λ r. covers r b) others ≡ true) buckets

-- a partition that no answer divides, and than which each such partition is finer or equal
pub record IsCoarsest (lane : Low) (answers rows : List Low) : Type 0 where
  pub partition : IsPartition lane rows
  pub undivided : NoneDivided answers rows
  pub coarsest : (others : List Low) → AreBuckets others → IsPartition lane others
      → NoneDivided answers others → IsFiner others rows

-- a row without marks, active node and Delete
abbrev pub new_row : Low → Row
new_row b = record { bucket = b; complete = 0; active = None; accepted = false; deleting = None }
