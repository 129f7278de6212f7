-- One slot less: that of a document.
use Rattle.std.proofs.Common.{◌≡◌, ◌≢◌, ℕ, suc, ◌+◌, Bool, true, false, cond, not, List, [], ◌∷◌, ◌++◌, get_or, take, drop, refl, sym, ap, ap₂, subst, ◌∙◌, arith, Option, None, Some, is_some}
use Rattle.std.specs.List.{filter, count_by}
use Rattle.std.specs.FinMap as fin
use Rattle.std.specs.FinMap.{get-insert, get-remove, get-retain_keys, slice_cmp-IsAntisymmetric, nat_cmp-IsAntisymmetric}
use Rattle.std.specs.Cmp.Lexicographic.{nat_list_cmp_total}
use Rattle.std.proofs.lemmas.List.Elements.{filter-append}
use Rattle.std.proofs.lemmas.List.Sums.{sum_by-append, sum_by-cons}
use Rattle.documents.specs.declared.entry.Entry.{Entry}
use Rattle.entry_rows.specs.declared.slots.Slot.{Slot}
use Rattle.entry_rows.specs.Slots.{has_document}
use Rattle.entry_maps.specs.Slots.{entries_of, entry_in, Apart, IsKept, IsSlotOf, pairs}
use Rattle.entry_maps.specs.EntryCodes.{Entries}
use Rattle.entry_maps.specs.Entries.{AreSingle, with_instead, alone}
use Rattle.entry_maps.proofs.SlotLists.{same_id, same_id-refl, same_id-sym, same_id-is, cond_none, none_before, none_behind, get-entries_of}
use Rattle.entry_maps.proofs.KeptLaws.{apart_of}
use Rattle.entry_maps.proofs.StoredLaws.{whole, apart_there, found_there, same_entries}
use Rattle.entry_maps.proofs.RunLaws.{filtered_entries}
use Rattle.entry_maps.proofs.AloneLaws.{its_own, no_other, get_alone, nothing_stays}

-- the slot is of another document
abbrev pub is_other : List ℕ → Slot → Bool
is_other id s = not (same_id id s.entry.id)

others_stay : (id : List ℕ) (slots : List Slot) → entry_in slots id ≡ None → filter (is_other id) slots ≡ slots
others_stay id [] none = refl
others_stay id (s ∷ slots) none =
    let h = cond_none (same_id id s.entry.id) s.entry (entry_in slots id) none in
    ap (λ b. cond (not b) (s ∷ filter (is_other id) slots) (filter (is_other id) slots)) h.0 ∙ ap (λ l. s ∷ l) (others_stay id slots h.1)

one_less : (xs ys : List Slot) (s : Slot) → Apart (xs ++ s ∷ ys) → filter (is_other s.entry.id) (xs ++ s ∷ ys) ≡ xs ++ ys
one_less xs ys s apart =
    filter-append (is_other s.entry.id) xs (s ∷ ys)
    ∙ ap₂ (λ a b. a ++ b) (others_stay s.entry.id xs (none_before xs ys s apart))
    (ap (λ b. cond (not b) (s ∷ filter (is_other s.entry.id) ys) (filter (is_other s.entry.id) ys)) (same_id-refl s.entry.id) ∙ others_stay s.entry.id ys (none_behind xs ys s apart))

-- the slots without that at a place are those of the other documents
pub left_is : (slots : List Slot) (id : List ℕ) (at : ℕ) (d : Slot) → IsKept slots → IsSlotOf slots id at → take at slots ++ drop (suc at) slots ≡ filter (is_other id) slots
left_is slots id at d kept slot =
    sym (ap₂ (λ q l. filter (is_other q) l) (sym (slot.document d)) (sym (whole slots at d slot.within))
    ∙ one_less (take at slots) (drop (suc at) slots) (get_or slots at d) (apart_there slots at d slot.within (apart_of slots kept)))

abbrev one : Slot → ℕ
one s = cond (has_document s) 1 0

-- and how many of them hold documents
pub left_count : (slots : List Slot) (id : List ℕ) (at : ℕ) (d : Slot) → IsSlotOf slots id at → count_by has_document (take at slots ++ drop (suc at) slots) + cond (has_document (get_or slots at d)) 1 0 ≡ count_by has_document slots
left_count slots id at d slot =
    omega (
      arith,
      sum_by-append one (take at slots) (drop (suc at) slots),
      sum_by-append one (take at slots) (get_or slots at d ∷ drop (suc at) slots),
      sum_by-cons one (get_or slots at d) (drop (suc at) slots),
      ap (count_by has_document) (whole slots at d slot.within),
    )

-- where no document has two slots, no id stands twice
pub pairs_single : (slots : List Slot) → Apart slots → AreSingle (pairs slots)
pairs_single [] apart = tt
pairs_single (s ∷ slots) apart = (apart.0, pairs_single slots apart.1)

-- ---- maps

-- what stays of all but one document
others_left : (m : Entries) (id : List ℕ) → fin.retain_keys m (λ q. not (same_id id q)) ≡ fin.remove m id
others_left m id = same_entries (fin.retain_keys m (λ q. not (same_id id q))) (fin.remove m id) (λ q.
    get-retain_keys m (λ q. not (same_id id q)) q (λ x e. ap (λ y. not (same_id id y)) (sym (slice_cmp-IsAntisymmetric nat_cmp-IsAntisymmetric q x e)))
    ∙ ap (λ t. cond (not t) (fin.get m q) None) (same_id-sym id q)
    ∙ turned (same_id q id) (fin.get m q)
    ∙ sym (get-remove nat_list_cmp_total m id q))
  where
    turned : (t : Bool) (o : Option Entry) → cond (not t) o None ≡ cond t None o
    turned true o = refl
    turned false o = refl

-- the slot of a document is taken out, or there was none
pub removed_entries : (slots : List Slot) (id : List ℕ) → entries_of (filter (is_other id) slots) ≡ fin.remove (entries_of slots) id
removed_entries slots id = filtered_entries (λ q. not (same_id id q)) slots ∙ others_left (entries_of slots) id

pub removed_none : (m : Entries) (id : List ℕ) → fin.get m id ≡ None → m ≡ fin.remove m id
removed_none m id none = sym (same_entries (fin.remove m id) m (λ q. get-remove nat_list_cmp_total m id q ∙ by_test q (same_id q id) refl))
  where
    by_test : (q : List ℕ) (t : Bool) → same_id q id ≡ t → cond t None (fin.get m q) ≡ fin.get m q
    by_test q true same = sym (ap (fin.get m) (same_id-is q id same) ∙ none)
    by_test q false other = refl

pub instead_there : (slots : List Slot) (e : Entry) (at : ℕ) (d : Slot) → IsKept slots → IsSlotOf slots e.id at → fin.insert (entries_of slots) e.id e ≡ with_instead (entries_of slots) e
instead_there slots e at d kept slot =
    sym (ap (λ o. cond (is_some o) (fin.insert (entries_of slots) e.id e) (entries_of slots)) (get-entries_of slots e.id ∙ found_there slots e.id at d kept slot))

pub instead_none : (m : Entries) (e : Entry) → fin.get m e.id ≡ None → m ≡ with_instead m e
instead_none m e none = sym (ap (λ o. cond (is_some o) (fin.insert m e.id e) m) none)

-- ---- the map of one entry

pub alone_removed : (e : Entry) (id : List ℕ) → e.id ≡ id → fin.empty ≡ fin.remove (alone e) id
alone_removed e id same = nothing_stays (λ q. not (same_id id q)) e (ap (λ q. not (same_id id q)) same ∙ ap not (same_id-refl id)) ∙ others_left (alone e) id

pub alone_left : (e : Entry) (id : List ℕ) → e.id ≢ id → alone e ≡ fin.remove (alone e) id
alone_left e id other = removed_none (alone e) id (no_other e id other)

pub alone_instead : (old e : Entry) → old.id ≡ e.id → alone e ≡ with_instead (alone old) e
alone_instead old e same =
    sym (ap (λ o. cond (is_some o) (fin.insert (alone old) e.id e) (alone old)) (its_own old e.id same)
    ∙ same_entries (fin.insert (alone old) e.id e) (alone e) (λ q.
    get-insert nat_list_cmp_total (alone old) e.id e q
    ∙ ap (λ o. cond (same_id q e.id) (Some e) o) (get_alone old q ∙ ap (λ i. cond (same_id q i) (Some old) None) same)
    ∙ twice (same_id q e.id)
    ∙ sym (get_alone e q)))
  where
    twice : (t : Bool) → cond t (Some e) (cond t (Some old) None) ≡ cond t (Some e) None
    twice true = refl
    twice false = refl

pub alone_stays : (old e : Entry) → old.id ≢ e.id → alone old ≡ with_instead (alone old) e
alone_stays old e other = instead_none (alone old) e (no_other old e.id other)
