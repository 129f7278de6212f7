-- Entries in the order of their ids.
use Rattle.std.specs.Prelude.{◌≡◌, false, List, [], ◌∷◌}
use Rattle.std.specs.declared.cmp.Ordering.{Ordering}
use Rattle.documents.specs.declared.entry.Entry.{Entry}
use Rattle.documents.specs.EntryCodes.{id_cmp}
use Rattle.document_rows.specs.Rows.{has_entry}

abbrev pub entry_cmp : Entry → Entry → Ordering
entry_cmp a b = id_cmp a.id b.id

-- each id stands there once
abbrev pub AreApart : List Entry → Type 0
AreApart [] = Unit {0}
AreApart (e ∷ es) = (has_entry e.id es ≡ false) × AreApart es
