-- What the searches and changes ask of the rows; only private functions speak of it.
use Rattle.std.specs.Prelude.{◌≡◌, ◌≢◌, ◌⊎◌, ◌↔◌, ℕ, ◌≤◌, true, List, [], ◌∷◌, Some, slice_get}
use Rattle.bucket_ids.specs.Buckets.{Low, covers, parent_of}
use Rattle.bucket_ids.specs.Printed.{number_of}
use Rattle.bucket_db.specs.declared.row.Row.{Row}

-- the numbers of the buckets don't fall, from one on
abbrev pub RisesFrom : ℕ → List Low → Type 0
RisesFrom least [] = Unit {0}
RisesFrom least (b ∷ rest) = (least ≤ number_of b) × RisesFrom (number_of b) rest

-- the rows of two places, and no others, lie inside the parent of the first one's bucket
pub record AreHalves (rows : List Row) (at other : ℕ) : Type 0 where
  pub apart : at ≢ other
  pub inside : (row : Row) → slice_get rows at ≡ Some row → (k : ℕ) (r : Row) → slice_get rows k ≡ Some r
      → (covers (parent_of row.bucket) r.bucket ≡ true) ↔ ((k ≡ at) ⊎ (k ≡ other))
