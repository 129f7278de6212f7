-- That entries find free places.
use Rattle.std.specs.Prelude.{◌≡◌, ℕ, true, List, [], ◌∷◌, is_some, Some}
use Rattle.std.specs.FinMap as fin
use Rattle.documents.specs.declared.entry.Entry.{Entry}
use Rattle.entry_maps.specs.EntryCodes.{Entries}
use Rattle.document_rows.specs.Rows.{Rows, has_row}

-- the entries are the map's
abbrev pub AllAt : Entries → List Entry → Type 0
AllAt m [] = Unit {0}
AllAt m (e ∷ es) = (fin.get m e.id ≡ Some e) × AllAt m es

-- each document is of an id that the map has
abbrev pub AllHave : Entries → Rows → Type 0
AllHave m rows = (q : List ℕ) → has_row q rows ≡ true → is_some (fin.get m q) ≡ true
