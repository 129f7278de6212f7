-- The rows of a version as a list.
use Rattle.std.specs.Prelude.{◌≡◌, ◌==◌, ◌⊎◌, ℕ, Bool, true, false, List, [], ◌∷◌, Option, Some, None, if◌then◌else◌}
use Rattle.lane_journals.specs.Buckets.{Bucket, contains, same_bucket, first_child, second_child}
use Rattle.lane_journals.specs.Events.{RoundEnded, RowSplit, RowsJoined, ActiveOn, DeleteFrom, DeleteOver, Opened, Closed, Decided}
use Rattle.lane_journals.specs.Readers.{Journal, or_else, Beginning, Preparing, began, prepared, lacks, Deleting, ends}

pub record Row : Type 0 where
  pub bucket : Bucket
  pub members : ℕ → Bool
  pub active : Option ℕ
  pub deleting : Option Deleting

abbrev pub new_rows : List Bucket → List Row
new_rows [] = []
new_rows (b ∷ bs) = record { bucket = b; members = λ n. false; active = None; deleting = None } ∷ new_rows bs

abbrev pub with_members : (ℕ → Bool) → Row → Row
with_members set r = record { bucket = r.bucket; members = λ n. if set n then true else r.members n; active = r.active; deleting = r.deleting }

abbrev pub with_active : ℕ → Row → Row
with_active n r = record { bucket = r.bucket; members = r.members; active = Some n; deleting = r.deleting }

abbrev pub with_delete : Bucket → ℕ → ℕ → Row → Row
with_delete b n s r = record { bucket = r.bucket; members = λ m. if n == m then false else r.members m; active = r.active; deleting = Some (record { bucket = b; node = n; serial = s }) }

abbrev pub without_delete : Bucket → ℕ → Row → Row
without_delete b n r = record { bucket = r.bucket; members = r.members; active = r.active; deleting = ends b n r.deleting }

abbrev pub without : (ℕ → Bool) → Row → Row
without lost r = record { bucket = r.bucket; members = λ n. if lost n then false else r.members n; active = r.active; deleting = r.deleting }

-- the row of the bucket is changed
abbrev pub change : Bucket → (Row → Row) → List Row → List Row
change b f [] = []
change b f (r ∷ rows) = (if same_bucket r.bucket b then f r else r) ∷ change b f rows

abbrev pub change_all : (Row → Row) → List Row → List Row
change_all f [] = []
change_all f (r ∷ rows) = f r ∷ change_all f rows

abbrev pub child : Bucket → Row → Row
child b r = record { bucket = b; members = r.members; active = r.active; deleting = r.deleting }

abbrev pub split_row : Bucket → List Row → List Row
split_row b [] = []
split_row b (r ∷ rows) = if same_bucket r.bucket b then child (first_child b) r ∷ child (second_child b) r ∷ split_row b rows else r ∷ split_row b rows

abbrev pub row_named : Bucket → List Row → Option Row
row_named b [] = None
row_named b (r ∷ rows) = if same_bucket r.bucket b then Some r else row_named b rows

abbrev pub drop_row : Bucket → List Row → List Row
drop_row b [] = []
drop_row b (r ∷ rows) = if same_bucket r.bucket b then drop_row b rows else r ∷ drop_row b rows

-- a joined row keeps the common members, the one active node and the one Delete
abbrev pub joined : Bucket → Option Row → Option Row → List Row → List Row
joined p (Some r) (Some q) rows = record { bucket = p; members = λ n. if r.members n then q.members n else false; active = r.active; deleting = or_else r.deleting q.deleting } ∷ rows
joined p _ _ rows = rows

abbrev pub join_rows : Bucket → List Row → List Row
join_rows p rows = joined p (row_named (first_child p) rows) (row_named (second_child p) rows) (drop_row (first_child p) (drop_row (second_child p) rows))

-- an acknowledged line takes from its row the members that didn't answer
abbrev pub close_row : ℕ → Option Beginning → Option Preparing → Journal → List Row → List Row
close_row v (Some b) (Some p) J rows = if b.version == v then change p.row (without (λ n. lacks v b.id n J b.stamp)) rows else rows
close_row v _ _ J rows = rows

abbrev pub rows : ℕ → Journal → List Row
rows v [] = []
rows v (Opened d w bs ∷ J) = if w == v then new_rows bs else rows v J
rows v (Closed l true ∷ J) = close_row v (began l J) (prepared l J) J (rows v J)
rows v (Decided d w (RoundEnded b set) ∷ J) = if w == v then change b (with_members set) (rows v J) else rows v J
rows v (Decided d w (RowSplit b) ∷ J) = if w == v then split_row b (rows v J) else rows v J
rows v (Decided d w (RowsJoined p) ∷ J) = if w == v then join_rows p (rows v J) else rows v J
rows v (Decided d w (ActiveOn b n) ∷ J) = if w == v then change b (with_active n) (rows v J) else rows v J
rows v (Decided d w (DeleteFrom b n s) ∷ J) = if w == v then change b (with_delete b n s) (rows v J) else rows v J
rows v (Decided d w (DeleteOver b n) ∷ J) = if w == v then change_all (without_delete b n) (rows v J) else rows v J
rows v (_ ∷ J) = rows v J

-- the row with the key
abbrev pub row_with : ℕ → List Row → Option Row
row_with key [] = None
row_with key (r ∷ rows) = if contains r.bucket key then Some r else row_with key rows

abbrev pub bucket_of : Option Row → Option Bucket
bucket_of None = None
bucket_of (Some r) = Some r.bucket

abbrev pub member_of : ℕ → Option Row → Bool
member_of n None = false
member_of n (Some r) = r.members n

abbrev pub active_of : Option Row → Option ℕ
active_of None = None
active_of (Some r) = r.active

abbrev pub delete_of : Option Row → Option Deleting
delete_of None = None
delete_of (Some r) = r.deleting

-- the row is in the list
abbrev pub IsIn : Row → List Row → Type 0
IsIn r [] = ⊥
IsIn r (q ∷ rs) = (q ≡ r) ⊎ IsIn r rs
