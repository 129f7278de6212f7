-- The scores of nodes for a bucket, and which of them comes first.
use Rattle.std.specs.Prelude.{◌≡◌, ◌⊎◌, ◌&&◌, ◌||◌, ℕ, ◌<◌, Bool, List, [], ◌∷◌, ◌++◌, take, true, nat_lt, nat_eq}
use Rattle.std.specs.Int.{from_be_bytes, to_be_bytes, w16, w64}
use Rattle.md5.specs.Md5.{md5}
use Rattle.bucket_ids.specs.Buckets.{Low}
use Rattle.node_sets.specs.Members.{has_node}

-- the first eight bytes of a digest, as a big-endian number
abbrev pub first_eight : List ℕ → ℕ
first_eight digest = from_be_bytes w64 (take 8 digest)

-- a word, the bucket's bits in one byte, its low bits in eight, and the node's number in two
abbrev pub score_text : List ℕ → ℕ → ℕ → ℕ → List ℕ
score_text word bits low node = ((word ++ bits ∷ []) ++ to_be_bytes w64 low) ++ to_be_bytes w16 node

-- the score of a node for a bucket
unfoldable pub score_of : List ℕ → Low → ℕ → ℕ
score_of word bucket node = first_eight (md5 (score_text word bucket.bits bucket.low node))

-- the first of two nodes ranks before the second: by the greater score, then by the lower number
abbrev pub Ranks : (ℕ → ℕ) → ℕ → ℕ → Type 0
Ranks score a b = (score b < score a) ⊎ ((score a ≡ score b) × (a < b))

-- the same as a test
abbrev pub ranks_before : (ℕ → ℕ) → ℕ → ℕ → Bool
ranks_before score a b = nat_lt (score b) (score a) || (nat_eq (score a) (score b) && nat_lt a b)

-- the first of two nodes comes before the second: by the lower rank, then as it ranks by score
abbrev pub Comes : (rank score : ℕ → ℕ) → ℕ → ℕ → Type 0
Comes rank score a b = (rank a < rank b) ⊎ ((rank a ≡ rank b) × Ranks score a b)

-- a member of the set that goes before every other one
pub record IsFirstBy (before : ℕ → ℕ → Type 0) (set node : ℕ) : Type 0 where
  pub member : has_node set node ≡ true
  pub first : (other : ℕ) → has_node set other ≡ true → (other ≡ node) ⊎ before node other

-- a member of the set that ranks before every other one
abbrev pub IsFirst : (ℕ → ℕ) → ℕ → ℕ → Type 0
IsFirst score = IsFirstBy (Ranks score)

-- a list has a number
abbrev pub Has : ℕ → List ℕ → Type 0
Has n [] = ⊥
Has n (m ∷ ms) = (n ≡ m) ⊎ Has n ms

-- each node of a list goes before those behind it
abbrev pub IsRanked : (ℕ → ℕ → Type 0) → List ℕ → Type 0
IsRanked before [] = Unit {0}
IsRanked before (n ∷ ns) = ((m : ℕ) → Has m ns → before n m) × IsRanked before ns
