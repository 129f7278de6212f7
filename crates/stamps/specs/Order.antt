-- The order of stamps: by version, and for equal versions by count.
use Rattle.std.specs.Prelude.{◌≡◌, ◌==◌, ◌<◌, ◌⊎◌, Bool, nat_lt, if◌then◌else◌}
use Rattle.stamps.specs.declared.stamp.Stamp.{Stamp}

-- a is the smaller stamp
abbrev pub IsBefore : Stamp → Stamp → Type 0
IsBefore a b = (a.version < b.version) ⊎ ((a.version ≡ b.version) × (a.count < b.count))

-- the same as a test
abbrev pub is_before : Stamp → Stamp → Bool
is_before a b = if a.version == b.version then nat_lt a.count b.count else nat_lt a.version b.version
