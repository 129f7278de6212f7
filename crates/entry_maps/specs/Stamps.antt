-- The stamps of the entries of a map.
use Rattle.std.specs.Prelude.{List, map}
use Rattle.std.specs.Ordering.{nat_cmp, on, then_cmp}
use Rattle.std.specs.declared.cmp.Ordering.{Ordering}
use Rattle.std.specs.FinMap as fin
use Rattle.stamps.specs.declared.stamp.Stamp.{Stamp}
use Rattle.documents.specs.declared.entry.Entry.{Entry}
use Rattle.entry_maps.specs.EntryCodes.{Entries}

-- stamps by their versions, and by their counts where these are equal
abbrev pub stamp_cmp : Stamp → Stamp → Ordering
stamp_cmp = then_cmp (on (λ s. s.version) nat_cmp) (on (λ s. s.count) nat_cmp)

-- the set of some stamps
abbrev pub set_of : List Stamp → fin.FinMap stamp_cmp (Unit {0})
set_of ss = fin.from_entries (map (λ s. (s, tt)) ss)

-- each of the stamps once, in rising order
abbrev pub rising_of : List Stamp → List Stamp
rising_of ss = fin.keys (set_of ss)

abbrev pub stamp_in : Entry → Stamp
stamp_in e = e.stamp

-- the stamps of a map's entries, each once, in rising order
abbrev pub stamps_of : Entries → List Stamp
stamps_of m = rising_of (map stamp_in (fin.values m))
