-- The buckets that a node holds.
use Rattle.std.specs.Prelude.{◌≡◌, ◌==◌, ◌⊎◌, ℕ, zero, suc, ◌-◌, Bool, true, false, List, [], ◌∷◌, ◌++◌, Option, Some, if◌then◌else◌}
use Rattle.lane_journals.specs.Buckets.{Bucket, contains, same_bucket, covers, meets, first_child, second_child}
use Rattle.lane_journals.specs.Events.{Body, Apply, Delete, Split, Join, Ready, Activate, Reply, Answer, Delivered}
use Rattle.lane_journals.specs.Readers.{Journal, Message, sent}

pub record NodePiece : Type 0 where
  pub bucket : Bucket
  pub ready : Bool

-- some piece has the key
abbrev pub any_contains : ℕ → List NodePiece → Bool
any_contains key [] = false
any_contains key (p ∷ ps) = if contains p.bucket key then true else any_contains key ps

abbrev pub any_covers : Bucket → List NodePiece → Bool
any_covers b [] = false
any_covers b (p ∷ ps) = if covers p.bucket b then true else any_covers b ps

abbrev pub any_inside : Bucket → List NodePiece → Bool
any_inside b [] = false
any_inside b (p ∷ ps) = if covers b p.bucket then true else any_inside b ps

abbrev pub any_meets : Bucket → List NodePiece → Bool
any_meets b [] = false
any_meets b (p ∷ ps) = if meets p.bucket b then true else any_meets b ps

abbrev pub is_piece : Bucket → List NodePiece → Bool
is_piece b [] = false
is_piece b (p ∷ ps) = if same_bucket p.bucket b then true else is_piece b ps

abbrev pub ready_covers : Bucket → List NodePiece → Bool
ready_covers b [] = false
ready_covers b (p ∷ ps) = if covers p.bucket b then p.ready else ready_covers b ps

abbrev pub ready_inside : Bucket → List NodePiece → Bool
ready_inside b [] = false
ready_inside b (p ∷ ps) = if covers b p.bucket then (if p.ready then true else ready_inside b ps) else ready_inside b ps

-- the piece is split k times towards the bucket; its parts have its mark
abbrev pub cut : ℕ → Bucket → NodePiece → List NodePiece
cut zero b p = p ∷ []
cut (suc k) b p = if covers (first_child p.bucket) b then record { bucket = second_child p.bucket; ready = p.ready } ∷ cut k b (record { bucket = first_child p.bucket; ready = p.ready }) else record { bucket = first_child p.bucket; ready = p.ready } ∷ cut k b (record { bucket = second_child p.bucket; ready = p.ready })

-- the piece that covers the bucket is split until the bucket is a piece
abbrev pub split_to : Bucket → List NodePiece → List NodePiece
split_to b [] = []
split_to b (p ∷ ps) = if covers p.bucket b then cut (b.bits - (p.bucket).bits) b p ++ split_to b ps else p ∷ split_to b ps

abbrev pub drop_inside : Bucket → List NodePiece → List NodePiece
drop_inside b [] = []
drop_inside b (p ∷ ps) = if covers b p.bucket then drop_inside b ps else p ∷ drop_inside b ps

-- the pieces inside the bucket become one, ready if any was
abbrev pub unite : Bucket → List NodePiece → List NodePiece
unite b ps = record { bucket = b; ready = ready_inside b ps } ∷ drop_inside b ps

abbrev pub make : Bucket → List NodePiece → List NodePiece
make b ps = if any_covers b ps then split_to b ps else unite b ps

abbrev pub remove : Bucket → List NodePiece → List NodePiece
remove b [] = []
remove b (p ∷ ps) = if same_bucket p.bucket b then remove b ps else p ∷ remove b ps

abbrev pub mark : Bucket → List NodePiece → List NodePiece
mark b [] = []
mark b (p ∷ ps) = (if same_bucket p.bucket b then record { bucket = p.bucket; ready = true } else p) ∷ mark b ps

-- the pieces after an accepted message
abbrev pub pieces_after : Body → List NodePiece → List NodePiece
pieces_after (Apply b u) ps = make b ps
pieces_after (Delete b s) ps = remove b ps
pieces_after (Split b) ps = split_to b ps
pieces_after (Join b) ps = unite b ps
pieces_after (Ready b) ps = mark b ps
pieces_after _ ps = ps

abbrev pub after_reply : ℕ → Reply → Option Message → List NodePiece → List NodePiece
after_reply n (Answer x names) (Some m) ps = if m.receiver == n then pieces_after m.body ps else ps
after_reply n _ _ ps = ps

abbrev pub pieces : ℕ → Journal → List NodePiece
pieces n [] = []
pieces n (Delivered k r ∷ J) = after_reply n r (sent k J) (pieces n J)
pieces n (_ ∷ J) = pieces n J

-- what an answer asks of the pieces
abbrev pub MayTake : List NodePiece → Body → Type 0
MayTake ps (Delete b s) = is_piece b ps ≡ true
MayTake ps (Split b) = any_covers b ps ≡ true
MayTake ps (Join b) = any_inside b ps ≡ true
MayTake ps (Ready b) = is_piece b ps ≡ true
MayTake ps (Activate b) = ready_covers b ps ≡ true
MayTake ps _ = Unit {0}

abbrev pub IsPieceIn : NodePiece → List NodePiece → Type 0
IsPieceIn p [] = ⊥
IsPieceIn p (q ∷ ps) = (q ≡ p) ⊎ IsPieceIn p ps
