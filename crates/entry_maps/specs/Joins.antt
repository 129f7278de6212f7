-- Two maps of entries, joined.
use Rattle.std.specs.Prelude.{ℕ, List, [], ◌∷◌, Option, None, Some, if◌then◌else◌}
use Rattle.std.specs.FinMap as fin
use Rattle.documents.specs.declared.entry.Entry.{Entry}
use Rattle.entry_maps.specs.EntryCodes.{Entries}
use Rattle.entry_maps.specs.Entries.{is_newer}

-- the newer of an entry that may be there and another one
abbrev pub newer_entry : Option Entry → Entry → Entry
newer_entry None e = e
newer_entry (Some there) e = if is_newer e (Some there) then e else there

-- a map after further entries came, each for its document
abbrev pub joined_onto : Entries → List (List ℕ × Entry) → Entries
joined_onto m [] = m
joined_onto m (p ∷ ps) = fin.insert (joined_onto m ps) p.0 (newer_entry (fin.get m p.0) p.1)

-- of each document the newer of two maps' entries; of two equal stamps the first map's
unfoldable pub joined : Entries → Entries → Entries
joined m other = joined_onto m (fin.entries other)
