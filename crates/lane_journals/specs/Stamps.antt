-- The order of stamps, and what is newer.
use Rattle.std.specs.Prelude.{◌≡◌, ◌<◌, ◌≤◌, Bool, true, false, ◌⊎◌, ◌==◌, nat_lt, Option, Some, None, if◌then◌else◌}
use Rattle.stamps.specs.declared.stamp.Stamp.{Stamp as Kept}

abbrev pub Stamp : Type 0
Stamp = Kept

-- a is b or older
unfoldable pub StampLe : Stamp → Stamp → Type 0
StampLe a b = (a.version < b.version) ⊎ ((a.version ≡ b.version) × (a.count ≤ b.count))

-- the test that b is newer than a
unfoldable pub is_older : Stamp → Stamp → Bool
is_older a b = if nat_lt a.version b.version then true else (if a.version == b.version then nat_lt a.count b.count else false)

-- what holds nothing is oldest
unfoldable pub Le : Option Stamp → Option Stamp → Type 0
Le None b = Unit {0}
Le (Some a) None = ⊥
Le (Some a) (Some b) = StampLe a b

-- the newer of two
unfoldable pub newer : Option Stamp → Option Stamp → Option Stamp
newer None b = b
newer (Some a) None = Some a
newer (Some a) (Some b) = if is_older a b then Some b else Some a

unfoldable pub same_stamp : Stamp → Stamp → Bool
same_stamp a b = if a.version == b.version then a.count == b.count else false
