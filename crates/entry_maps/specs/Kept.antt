-- What a map has, that keeps one entry alone or all in rows.
use Rattle.std.specs.Prelude.{◌≡◌, List, Option, IfSome}
use Rattle.stamps.specs.declared.stamp.Stamp.{Stamp}
use Rattle.entry_maps.specs.declared.kept.Kept.{Kept}
use Rattle.entry_maps.specs.declared.kept.Kept.TheVariants.{One, Rows}
use Rattle.entry_maps.specs.EntryCodes.{Entries}
use Rattle.entry_maps.specs.Entries.{alone}
use Rattle.entry_maps.specs.Slots.{entries_of, slots_in, IsStored}
use Rattle.entry_maps.specs.Stamps.{stamps_of}

-- the entries
abbrev pub kept_entries : Kept → Entries
kept_entries (One e) = alone e
kept_entries (Rows s) = entries_of (slots_in s)

-- rows are kept and counted
abbrev pub IsWell : Kept → Type 0
IsWell (One e) = Unit {0}
IsWell (Rows s) = IsStored s

-- rows are kept and counted, and stamps that are kept are those of the entries
pub record IsMap (kept : Kept) (stamps : Option (List Stamp)) : Type 0 where
  pub well : IsWell kept
  pub noted : IfSome stamps (λ ss. ss ≡ stamps_of (kept_entries kept))
