-- The order of turned keys, in which each bucket is one run.
use Rattle.std.specs.Prelude.{ℕ, ◌+◌, ◌-◌, ◌^◌}
use Rattle.std.specs.Int.{reverse_bits, w64}
use Rattle.bucket_ids.specs.Buckets.{Low}

-- the 64 bits of a key, last first
unfoldable pub path : ℕ → ℕ
path key = reverse_bits w64 key

-- how many paths the run of a bucket spans
abbrev pub span : Low → ℕ
span b = 2 ^ (64 - b.bits)

-- the least path of a bucket's keys
abbrev pub first_path : Low → ℕ
first_path b = path b.low

-- the last path of the run
abbrev pub last_path : Low → ℕ
last_path b = first_path b + (span b - 1)
