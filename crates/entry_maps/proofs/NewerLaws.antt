-- Whether a map has a newer entry of some document than another map.
use Rattle.std.proofs.Common.{◌≡◌, ◌<◌, ℕ, Bool, true, false, cond, List, [], ◌∷◌, length, get_or, Option, Some, None, refl, sym, ap, subst, ◌∙◌}
use Rattle.std.specs.List.{All}
use Rattle.std.specs.FinMap as fin
use Rattle.std.proofs.lemmas.List.{get_or_default}
use Rattle.std.proofs.lemmas.List.Elements.{All-head, All-tail}
use Rattle.documents.specs.declared.entry.Entry.{Entry}
use Rattle.entry_rows.specs.declared.slots.Slot.{Slot}
use Rattle.entry_maps.specs.EntryCodes.{Entries}
use Rattle.entry_maps.specs.Entries.{is_newer, alone, HasNoneNewer, HasOneNewer}
use Rattle.entry_maps.specs.Merging.{HasAsNew}
use Rattle.entry_maps.specs.Slots.{IsKept, IsSlotOf, entries_of, entry_in}
use Rattle.entry_maps.proofs.SlotLists.{same_id, get-entries_of}
use Rattle.entry_maps.proofs.StoredLaws.{found_there}
use Rattle.entry_maps.proofs.AloneLaws.{get_alone, its_own}

-- a slot's entry isn't newer than what a map has
abbrev pub IsOld : Entries → Slot → Type 0
IsOld there s = is_newer s.entry (fin.get there s.entry.id) ≡ false

-- what is found among slots is a slot's entry
found_old : (there : Entries) (slots : List Slot) (id : List ℕ) (e : Entry) → All (IsOld there) slots → entry_in slots id ≡ Some e → is_newer e (fin.get there e.id) ≡ false
found_old there [] id e all h = cc
found_old there (s ∷ slots) id e all h = by_test (same_id id s.entry.id) h (λ g. found_old there slots id e (All-tail (IsOld there) s slots all) g)
  where
    by_test : (t : Bool) → cond t (Some s.entry) (entry_in slots id) ≡ Some e → (entry_in slots id ≡ Some e → is_newer e (fin.get there e.id) ≡ false) → is_newer e (fin.get there e.id) ≡ false
    by_test true h later = let is : s.entry ≡ e = let g = h in cc in subst (λ (x : Entry). is_newer x (fin.get there x.id) ≡ false) is (All-head (IsOld there) s slots all)
    by_test false h later = later h

pub none_newer : (there : Entries) (slots : List Slot) → All (IsOld there) slots → HasNoneNewer (entries_of slots) there
none_newer there slots all id e h = found_old there slots id e all (sym (get-entries_of slots id) ∙ h)

pub one_newer : (there : Entries) (slots : List Slot) (i : ℕ) (s : Slot) → IsKept slots → i < length slots → s ≡ get_or slots i s → is_newer s.entry (fin.get there s.entry.id) ≡ true
    → HasOneNewer (entries_of slots) there
one_newer there slots i s kept lt is new =
    let slot : IsSlotOf slots s.entry.id i = record { within = lt; document = λ d. ap (λ (r : Slot). r.entry.id) (get_or_default slots i d s lt ∙ sym is) } in
    (s.entry.id, s.entry, get-entries_of slots s.entry.id ∙ found_there slots s.entry.id i s kept slot ∙ ap (λ (r : Slot). Some r.entry) (sym is), new)

pub alone_old : (there : Entries) (x : Entry) → is_newer x (fin.get there x.id) ≡ false → HasNoneNewer (alone x) there
alone_old there x old id e h = by_test (same_id id x.id) (sym (get_alone x id) ∙ h)
  where
    by_test : (t : Bool) → cond t (Some x) None ≡ Some e → is_newer e (fin.get there e.id) ≡ false
    by_test true h = let is : x ≡ e = let g = h in cc in subst (λ (y : Entry). is_newer y (fin.get there y.id) ≡ false) is old
    by_test false h = cc

pub alone_newer : (there : Entries) (x : Entry) → is_newer x (fin.get there x.id) ≡ true → HasOneNewer (alone x) there
alone_newer there x new = (x.id, x, its_own x x.id refl, new)

-- slots that other slots have with the same or a greater stamp hold no newer entry
pub none_newer_than : (there slots : List Slot) → All (HasAsNew there) slots → HasNoneNewer (entries_of slots) (entries_of there)
none_newer_than there slots all = none_newer (entries_of there) slots (λ k d lt.
    let s : Slot = get_or slots k d in
    ap (is_newer s.entry) (get-entries_of there s.entry.id) ∙ all k d lt)
