-- How the buckets of a node stand to a bucket, and what is said of a node there.
use Rattle.std.specs.Prelude.{◌≡◌, ◌&&◌, ℕ, Bool, true, false, List, [], ◌∷◌, Option, Some, None, IsSome}
use Rattle.std.specs.List.{list_any, find}
use Rattle.bucket_ids.specs.Buckets.{Low, IsBucket, has_key}
use Rattle.pieces.specs.declared.piece.Piece.{Piece}
use Rattle.pieces.specs.Pieces.{is_over, is_inside, is_exactly, does_meet, has_key_of}
use Rattle.lane_journals.specs.Buckets.{Id, key_of}
use Rattle.pass_model.specs.Nodes.{Node, can_delete}

-- the node has no bucket there, just this bucket with a serial, one strictly over it, or some strictly inside
pub data Shape : Type 0 where
  Nothing : Shape
  Same : ℕ → Shape
  Over : Shape
  Inside : Shape

abbrev pub shape_beside : Bool → Bool → Shape
shape_beside true inside = Over
shape_beside false true = Inside
shape_beside false false = Nothing

abbrev pub shape_by : Option Piece → Bool → Bool → Shape
shape_by (Some p) over inside = Same p.serial
shape_by None over inside = shape_beside over inside

-- what the pieces of a node show of a bucket
abbrev pub shape_of : Low → List Piece → Shape
shape_of b ps = shape_by (find (is_exactly b) ps) (list_any (is_over b) ps) (list_any (is_inside b) ps)

-- one that Split or Join makes the bucket
abbrev pub is_askew : Shape → Bool
is_askew Over = true
is_askew Inside = true
is_askew _ = false

abbrev pub is_same : Shape → Bool
is_same (Same k) = true
is_same _ = false

-- ---- what is said of a node

-- pieces are buckets and don't meet
abbrev pub IsApart : List Piece → Type 0
IsApart [] = Unit {0}
IsApart (p ∷ ps) = (list_any (does_meet p.bucket) ps ≡ false) × IsBucket p.bucket × IsApart ps

-- what is held of a document lies in a piece
pub record IsSound (x : Node) : Type 0 where
  pub apart : IsApart x.pieces
  pub held : (id : Id) → IsSome (x.store id) → list_any (has_key_of (key_of id)) x.pieces ≡ true

-- the node has neither buckets nor entries there
pub record IsClear (b : Low) (x : Node) : Type 0 where
  pub pieces : list_any (does_meet b) x.pieces ≡ false
  pub entries : (id : Id) → has_key b (key_of id) ≡ true → x.store id ≡ None

-- the bucket is one of its pieces
abbrev pub IsExact : Low → Node → Type 0
IsExact b x = list_any (is_exactly b) x.pieces ≡ true

-- and a ready one
abbrev pub IsReadied : Low → Node → Type 0
IsReadied b x = list_any (λ p. is_exactly b p && p.ready) x.pieces ≡ true

-- each key of the bucket lies in a region
abbrev pub IsActiveOn : Low → Node → Type 0
IsActiveOn b x = (key : ℕ) → has_key b key ≡ true → list_any (λ r. has_key r key) x.regions ≡ true

-- what the node showed is still so
abbrev pub Fits : Low → Shape → Node → Type 0
Fits b Nothing x = IsClear b x
Fits b (Same s) x = can_delete b s x ≡ true
Fits b Over x = list_any (is_over b) x.pieces ≡ true
Fits b Inside x = list_any (is_inside b) x.pieces ≡ true
