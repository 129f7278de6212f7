-- How often a key lies in some buckets, and what they measure together.
use Rattle.std.specs.Prelude.{◌≤◌, ◌<◌, ◌+◌, ◌^◌, ℕ, cond, List, [], ◌∷◌}
use Rattle.bucket_ids.specs.Buckets.{Low, has_key, measure}

-- in how many of the buckets the key lies
abbrev pub times : List Low → ℕ → ℕ
times [] key = 0
times (b ∷ bs) key = cond (has_key b key) 1 0 + times bs key

-- how many keys they have, each counted as often as it lies in one
abbrev pub measure_of : List Low → ℕ
measure_of [] = 0
measure_of (b ∷ bs) = measure b + measure_of bs

-- no key lies in two of them
abbrev pub CoverOnce : List Low → Type 0
CoverOnce bs = (key : ℕ) → key < 2 ^ 58 → times bs key ≤ 1
