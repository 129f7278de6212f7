-- What the pieces of an answer show of a bucket.
use Rattle.std.specs.Prelude.{◌&&◌, ℕ, Bool, nat_lt, List, [], ◌∷◌, Option, Some, None, if◌then◌else◌}
use Rattle.std.specs.List.{list_any}
use Rattle.bucket_ids.specs.Buckets.{Low, covers}
use Rattle.pieces.specs.declared.piece.Piece.{Piece}
use Rattle.pieces.specs.Pieces.{is_exactly}
use Rattle.pass_model.specs.Shapes.{Shape, Same, shape_beside}

-- the piece lies strictly over the bucket, or strictly inside it
abbrev pub lies_over : Low → Piece → Bool
lies_over b p = nat_lt (p.bucket).bits b.bits && covers p.bucket b

abbrev pub lies_inside : Low → Piece → Bool
lies_inside b p = nat_lt b.bits (p.bucket).bits && covers b p.bucket

-- the serial of the piece that is the bucket, if one of these is
abbrev pub serial_shown : Low → List Piece → Option ℕ
serial_shown b [] = None
serial_shown b (p ∷ ps) = if is_exactly b p then Some p.serial else serial_shown b ps

abbrev pub shape_with : Option ℕ → Bool → Bool → Shape
shape_with (Some s) over inside = Same s
shape_with None over inside = shape_beside over inside

abbrev pub shape_shown : Low → List Piece → Shape
shape_shown b qs = shape_with (serial_shown b qs) (list_any (lies_over b) qs) (list_any (lies_inside b) qs)
