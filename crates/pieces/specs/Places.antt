-- Where pieces lie that a bucket meets.
use Rattle.std.specs.Prelude.{◌≡◌, ◌<◌, ◌≤◌, ℕ, Bool, true, false, List, length, take, drop, nat_lt, slice_index_or}
use Rattle.std.specs.List.{list_any, AllWithin}
use Rattle.bucket_ids.specs.Buckets.{Low}
use Rattle.bucket_ids.specs.Paths.{first_path}
use Rattle.pieces.specs.declared.piece.Piece.{Piece}
use Rattle.pieces.specs.Pieces.{does_meet, is_over, is_inside, is_exactly}

-- the pieces that meet a bucket lie from one place to another
pub record IsRun (b : Low) (ps : List Piece) (from to : ℕ) : Type 0 where
  pub rising : from ≤ to
  pub within : to ≤ length ps
  pub before : list_any (does_meet b) (take from ps) ≡ false
  pub after : list_any (does_meet b) (drop to ps) ≡ false
  pub inside : AllWithin (λ p. does_meet b p ≡ true) ps from to

-- the first piece that meets a bucket stands at a place
pub record IsFirstMet (b : Low) (ps : List Piece) (at : ℕ) : Type 0 where
  pub within : at < length ps
  pub met : (d : Piece) → does_meet b (slice_index_or ps at d) ≡ true
  pub first : list_any (does_meet b) (take at ps) ≡ false

-- the first piece that covers a bucket stands at a place
pub record IsFirstOver (b : Low) (ps : List Piece) (at : ℕ) : Type 0 where
  pub within : at < length ps
  pub over : (d : Piece) → is_over b (slice_index_or ps at d) ≡ true
  pub first : list_any (is_over b) (take at ps) ≡ false

-- the piece that is a bucket stands at a place
pub record IsPlaceOf (b : Low) (ps : List Piece) (at : ℕ) : Type 0 where
  pub within : at < length ps
  pub exact : (d : Piece) → is_exactly b (slice_index_or ps at d) ≡ true

-- the pieces inside a bucket are those from one place to another
pub record IsRunInside (b : Low) (ps : List Piece) (from to : ℕ) : Type 0 where
  pub rising : from < to
  pub within : to ≤ length ps
  pub before : list_any (is_inside b) (take from ps) ≡ false
  pub after : list_any (is_inside b) (drop to ps) ≡ false
  pub inside : AllWithin (λ p. is_inside b p ≡ true) ps from to

-- the piece lies behind a path
abbrev pub is_behind : ℕ → Piece → Bool
is_behind path p = nat_lt path (first_path p.bucket)

-- the bucket of one key
abbrev pub key_bucket : ℕ → Low
key_bucket key = record { bits = 58; low = key }
