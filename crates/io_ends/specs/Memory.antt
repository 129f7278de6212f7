-- Ends in memory.
use Rattle.std.specs.Prelude.{ℕ, ◌+◌, ◌-◌, ◌^◌, ◌<◌, min, Bool, List, Contains}

-- a source: the bytes left, the numbers of the calls that fail, how many calls there were, how many failed, and how many
-- bytes the last one gave
pub record MemorySourceView : Type 0 where
  pub left : List ℕ
  pub failing : List ℕ
  pub calls : ℕ
  pub faults : ℕ
  pub gave : ℕ

-- a sink: the bytes written, the same numbers, and whether the last call wanted memory
pub record MemorySinkView : Type 0 where
  pub written : List ℕ
  pub failing : List ℕ
  pub calls : ℕ
  pub faults : ℕ
  pub wants : Bool

-- the greatest number of 64 bits, at which a count of calls stands still
abbrev pub last_count : ℕ
last_count = 2 ^ 64 - 1

-- a count of calls after one more
abbrev pub one_more : ℕ → ℕ
one_more calls = min (calls + 1) last_count

-- the call of this number was told to fail; calls from the last number on are not
abbrev pub IsToFail : List ℕ → ℕ → Type 0
IsToFail failing call = (call < last_count) × Contains failing call
