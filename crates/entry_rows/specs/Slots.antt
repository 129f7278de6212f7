-- What a slot holds.
use Rattle.std.specs.Prelude.{Bool, is_some}
use Rattle.entry_rows.specs.declared.slots.Slot.{Slot}

-- the slot holds a document, not a remove
abbrev pub has_document : Slot → Bool
has_document s = is_some s.entry.body
