-- The place that is kept for a stamp: of its version that at its count.
use Rattle.std.specs.Prelude.{◌==◌, ℕ, suc, List, [], ◌∷◌, Option, Some, None, get_or, if◌then◌else◌}
use Rattle.stamps.specs.declared.stamp.Stamp.{Stamp}
use Rattle.stamps.specs.declared.places.VersionPlaces.{VersionPlaces}
use Rattle.stamps.specs.declared.places.StampPlaces.{StampPlaces}

-- how many stand before a version
abbrev pub first_of : ℕ → List VersionPlaces → ℕ
first_of v [] = 0
first_of v (x ∷ xs) = if x.version == v then 0 else suc (first_of v xs)

-- the places of a version
abbrev pub under : ℕ → List VersionPlaces → List (Option ℕ)
under v [] = []
under v (x ∷ xs) = if x.version == v then x.places.items else under v xs

abbrev pub place_of : StampPlaces → Stamp → Option ℕ
place_of p s = get_or (under s.version p.versions.items) s.count None

-- the places once one is kept for a stamp
abbrev pub place_next : Stamp → ℕ → (Stamp → Option ℕ) → Stamp → Option ℕ
place_next stamp place old s = if stamp.version == s.version then (if stamp.count == s.count then Some place else old s) else old s
