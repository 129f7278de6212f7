-- What the answers of a round have together, as a map of entries.
use Rattle.std.specs.Prelude.{◌≡◌, ℕ, Bool, true, Some}
use Rattle.std.specs.FinMap as fin
use Rattle.entry_maps.specs.EntryCodes.{Entries}
use Rattle.lane_journals.specs.Stamps.{Stamp, Le}
use Rattle.lane_journals.specs.Buckets.{Id}
use Rattle.lane_journals.specs.Readers.{Journal, Given, answer}
use Rattle.lane_keeping.specs.NodeKeeping.{stamp_of}

-- the entries are those that were given
abbrev pub Gave : Given → Entries → Type 0
Gave g es = (id : Id) → g.content id ≡ stamp_of (fin.get es id)

-- the map has of each document what the answers of some nodes in a round had, or something newer, and nothing
-- that no answer had
pub record IsUnion (v r : ℕ) (H : Journal) (did : ℕ → Bool) (u : Entries) : Type 0 where
  pub covers : (n : ℕ) → did n ≡ true → (g : Given) × (answer v r n H ≡ Some g) × ((id : Id) → Le (g.content id) (stamp_of (fin.get u id)))
  pub attained : (id : Id) (s : Stamp) → stamp_of (fin.get u id) ≡ Some s → (n : ℕ) × (g : Given) × (answer v r n H ≡ Some g) × (g.content id ≡ Some s)
