-- Pieces in the order of their runs, and what the runs of buckets are.
use Rattle.std.specs.Prelude.{◌≡◌, ◌↔◌, ℕ, ◌+◌, ◌^◌, ◌<◌, ◌≤◌, List, [], ◌∷◌}
use Rattle.bucket_ids.specs.Buckets.{Low, IsBucket, IsIn, first_child, second_child}
use Rattle.bucket_ids.specs.Paths.{path, first_path, last_path}
use Rattle.pieces.specs.declared.piece.Piece.{Piece}

-- the pieces are buckets and lie in the order of their runs, the first no lower than a path
abbrev pub IsLaid : ℕ → List Piece → Type 0
IsLaid from [] = Unit {0}
IsLaid from (p ∷ ps) = (from ≤ first_path p.bucket) × IsBucket p.bucket × IsLaid (last_path p.bucket + 1) ps

-- a bucket is one run of paths, and so are its children, one behind the other
pub record AreRuns : Type 0 where
  pub run : (b : Low) (key : ℕ) → IsBucket b → key < 2 ^ 58 → IsIn b key ↔ ((first_path b ≤ path key) × (path key ≤ last_path b))
  pub seam : (b : Low) → IsBucket b → b.bits < 58 → first_path (second_child b) ≡ last_path (first_child b) + 1
  pub last : (b : Low) → IsBucket b → b.bits < 58 → last_path (second_child b) ≡ last_path b
