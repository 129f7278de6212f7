-- The text of a stamp, and the stamp of a text.
use Rattle.std.specs.Prelude.{◌<◌, ◌^◌, ◌&&◌, ◌==◌, ℕ, Bool, List, ◌∷◌, ◌++◌, nat_lt, Option, Some, None, if◌then◌else◌}
use Rattle.std.specs.List.{before_first, after_first}
use Rattle.std.specs.Fmt.{decimal}
use Rattle.std.specs.Str.{bytes_eq}
use Rattle.std.specs.Str.Parse.{digits_value}
use Rattle.stamps.specs.declared.stamp.Stamp.{Stamp}

-- the version, a colon and the count, both in decimal
unfoldable pub printed : Stamp → List ℕ
printed s = decimal s.version ++ 58 ∷ decimal s.count

-- the numbers have 32 and 64 bits
pub record IsStamp (s : Stamp) : Type 0 where
  pub version : s.version < 2 ^ 32
  pub count : s.count < 2 ^ 64

abbrev pub is_colon : ℕ → Bool
is_colon b = b == 58

-- the stamp of the numbers before and behind the first colon
abbrev pub stamp_by : List ℕ → Stamp
stamp_by text = record { version = digits_value 10 (before_first is_colon text); count = digits_value 10 (after_first is_colon text) }

abbrev pub is_printed : List ℕ → Stamp → Bool
is_printed text s = (nat_lt s.version (2 ^ 32) && nat_lt s.count (2 ^ 64)) && bytes_eq text (printed s)

-- the stamp that a text is printed of
unfoldable pub stamp_in : List ℕ → Option Stamp
stamp_in text = if is_printed text (stamp_by text) then Some (stamp_by text) else None
