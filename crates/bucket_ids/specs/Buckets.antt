-- Buckets as sets of keys.
use Rattle.std.specs.Prelude.{◌≡◌, ◌==◌, ℕ, ◌+◌, ◌-◌, ◌%◌, ◌^◌, ◌<◌, ◌≤◌, Bool, ◌&&◌, nat_le, nat_lt, if◌then◌else◌}

-- a number of bits, and the low bits
pub record Low : Type 0 where
  pub bits : ℕ
  pub low : ℕ

-- the two numbers name a bucket
pub record IsBucket (b : Low) : Type 0 where
  pub some : 1 ≤ b.bits
  pub most : b.bits ≤ 58
  pub fits : b.low < 2 ^ b.bits

-- the key lies in the bucket
abbrev pub IsIn : Low → ℕ → Type 0
IsIn b key = (key < 2 ^ 58) × (key % 2 ^ b.bits ≡ b.low)

-- the same as a test of a key, which is a number below 2^58
abbrev pub has_key : Low → ℕ → Bool
has_key b key = key % 2 ^ b.bits == b.low

-- each key of the second bucket lies in the first
abbrev pub Includes : Low → Low → Type 0
Includes a b = (key : ℕ) → IsIn b key → IsIn a key

-- the same as a test
abbrev pub covers : Low → Low → Bool
covers a b = nat_le a.bits b.bits && has_key a b.low

-- how many keys a bucket has
abbrev pub measure : Low → ℕ
measure b = 2 ^ (58 - b.bits)

-- the child whose keys have 0 in the next bit
abbrev pub first_child : Low → Low
first_child b = record { bits = b.bits + 1; low = b.low }

-- the child whose keys have 1 there
abbrev pub second_child : Low → Low
second_child b = record { bits = b.bits + 1; low = b.low + 2 ^ b.bits }

-- the bucket that has this one as a child
abbrev pub parent_of : Low → Low
parent_of b = record { bits = b.bits - 1; low = b.low % 2 ^ (b.bits - 1) }

-- the other child of the parent
abbrev pub sibling_of : Low → Low
sibling_of b = let half = 2 ^ (b.bits - 1) in record { bits = b.bits; low = if nat_lt b.low half then b.low + half else b.low - half }
