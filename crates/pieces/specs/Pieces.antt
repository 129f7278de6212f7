-- What calls make of the pieces of a node, which lie in the order of their runs.
use Rattle.std.specs.Prelude.{◌==◌, ◌&&◌, ◌||◌, ℕ, zero, suc, ◌-◌, Bool, true, false, not, List, [], ◌∷◌, ◌++◌, map, filter, nat_lt, if◌then◌else◌}
use Rattle.std.specs.List.{list_any}
use Rattle.bucket_ids.specs.Buckets.{Low, has_key, covers, first_child, second_child}
use Rattle.bucket_ids.specs.Paths.{first_path}
use Rattle.pieces.specs.declared.piece.Piece.{Piece}

abbrev pub same_bucket : Low → Low → Bool
same_bucket a b = (a.bits == b.bits) && (a.low == b.low)

-- two buckets have a key in common exactly where one covers the other
abbrev pub meets : Low → Low → Bool
meets a b = covers a b || covers b a

-- ---- one piece and a bucket or a key

abbrev pub is_over : Low → Piece → Bool
is_over b p = covers p.bucket b

abbrev pub is_inside : Low → Piece → Bool
is_inside b p = covers b p.bucket

abbrev pub is_exactly : Low → Piece → Bool
is_exactly b p = same_bucket p.bucket b

abbrev pub does_meet : Low → Piece → Bool
does_meet b p = meets p.bucket b

abbrev pub has_key_of : ℕ → Piece → Bool
has_key_of key p = has_key p.bucket key

-- the piece is the bucket with this serial
abbrev pub is_piece : Low → ℕ → Piece → Bool
is_piece b s p = is_exactly b p && (p.serial == s)

-- some piece has the key
abbrev pub holds : ℕ → List Piece → Bool
holds key ps = list_any (has_key_of key) ps

-- ---- new serials

abbrev pub with_serial : ℕ → Piece → Piece
with_serial s p = record { bucket = p.bucket; serial = s; ready = p.ready }

abbrev pub renew : (Piece → Bool) → ℕ → Piece → Piece
renew test s p = if test p then with_serial s p else p

-- the pieces that pass a test get a serial
abbrev pub renewed : (Piece → Bool) → ℕ → List Piece → List Piece
renewed test s ps = map (renew test s) ps

abbrev pub make_ready : Low → ℕ → Piece → Piece
make_ready b s p = if is_exactly b p then record { bucket = p.bucket; serial = s; ready = true } else p

-- the piece that is the bucket becomes ready
abbrev pub ready_at : Low → ℕ → List Piece → List Piece
ready_at b s ps = map (make_ready b s) ps

-- ---- other buckets

-- the parts of a bucket that is split so many times, always the part that covers another bucket
abbrev pub parts : ℕ → Low → Low → ℕ → Bool → List Piece
parts zero from to s ready = (record { bucket = from; serial = s; ready = ready }) ∷ []
parts (suc k) from to s ready =
    if covers (first_child from) to
    then parts k (first_child from) to s ready ++ (record { bucket = second_child from; serial = s; ready = ready }) ∷ []
    else (record { bucket = first_child from; serial = s; ready = ready }) ∷ parts k (second_child from) to s ready

-- the piece that covers a bucket is split until the bucket is a piece; each part has its mark
abbrev pub split_at : Low → ℕ → List Piece → List Piece
split_at b s [] = []
split_at b s (p ∷ ps) = if covers p.bucket b then parts (b.bits - p.bucket.bits) p.bucket b s p.ready ++ ps else p ∷ split_at b s ps

-- the pieces inside a bucket become one, which is ready if any of them was
abbrev pub join_at : Low → ℕ → List Piece → List Piece
join_at b s [] = []
join_at b s (p ∷ ps) =
    if covers b p.bucket
    then (record { bucket = b; serial = s; ready = p.ready || list_any (λ q. covers b q.bucket && q.ready) ps }) ∷ filter (λ q. not (covers b q.bucket)) ps
    else p ∷ join_at b s ps

-- one piece more, where its run comes
abbrev pub with_piece : Piece → List Piece → List Piece
with_piece q [] = q ∷ []
with_piece q (p ∷ ps) = if nat_lt (first_path q.bucket) (first_path p.bucket) then q ∷ p ∷ ps else p ∷ with_piece q ps

-- the bucket becomes a piece: by a split, by a join, or as a new one that isn't ready
abbrev pub apply_at : Low → ℕ → List Piece → List Piece
apply_at b s ps =
    if list_any (is_over b) ps then split_at b s ps
    else if list_any (is_inside b) ps then join_at b s ps
    else with_piece (record { bucket = b; serial = s; ready = false }) ps

-- the piece that is the bucket is gone
abbrev pub without : Low → List Piece → List Piece
without b ps = filter (λ p. not (is_exactly b p)) ps
