-- The map of one entry.
use Rattle.std.proofs.Common.{◌≡◌, ◌≢◌, ℕ, Bool, true, false, cond, List, [], ◌∷◌, Some, None, refl, sym, ap, ◌∙◌, is_some, arith}
use Rattle.std.specs.FinMap as fin
use Rattle.std.specs.FinMap.{get-empty, get-insert}
use Rattle.std.specs.Cmp.Lexicographic.{nat_list_cmp_total}
use Rattle.std.proofs.lemmas.List.Sums.{sum_by-cons}
use Rattle.documents.specs.declared.entry.Entry.{Entry}
use Rattle.entry_rows.specs.declared.slots.Slot.{Slot}
use Rattle.documents.specs.EntryCodes.{id_cmp}
use Rattle.entry_maps.specs.EntryCodes.{Entries}
use Rattle.entry_maps.specs.Entries.{is_newer, with_entry, newer_of, alone, documents_of}
use Rattle.entry_rows.specs.Slots.{has_document}
use Rattle.entry_maps.specs.Slots.{entries_of, Apart}
use Rattle.entry_maps.specs.Stamps.{stamp_cmp, stamps_of}
use Rattle.entry_maps.proofs.SlotLists.{same_id, same_id-refl, same_id-is, not_same, get-entries_of}
use Rattle.entry_maps.proofs.StoredLaws.{with_newer}
use Rattle.entry_rows.proofs.OrderLaws.{rising_one}
use Rattle.entry_maps.proofs.CountLaws.{len_all, documents_all}
use Rattle.entry_maps.proofs.StampLaws.{stamps_total, stamps_same, keys-sorted, stamps-slots}
use Rattle.entry_maps.proofs.RunLaws.{filtered_entries}

abbrev slot : Entry → Slot
slot e = record { path = 0; entry = e }

apart : (e : Entry) → Apart (slot e ∷ [])
apart e = (refl, tt)

pub get_alone : (e : Entry) (id : List ℕ) → fin.get (alone e) id ≡ cond (same_id id e.id) (Some e) None
get_alone e id = get-entries_of (slot e ∷ []) id

pub its_own : (e : Entry) (id : List ℕ) → e.id ≡ id → fin.get (alone e) id ≡ Some e
its_own e id same = get_alone e id ∙ ap (λ q. cond (same_id q e.id) (Some e) None) (sym same) ∙ ap (λ b. cond b (Some e) None) (same_id-refl e.id)

pub no_other : (e : Entry) (id : List ℕ) → e.id ≢ id → fin.get (alone e) id ≡ None
no_other e id other = get_alone e id ∙ ap (λ b. cond b (Some e) None) (not_same id e.id (λ q. other (sym q)) _ refl)

pub len_alone : (e : Entry) → fin.len (alone e) ≡ 1
len_alone e = len_all (slot e ∷ []) (apart e)

pub documents_alone : (e : Entry) → documents_of (alone e) ≡ cond (is_some e.body) 1 0
documents_alone e = documents_all (slot e ∷ []) (apart e) ∙ omega (arith, sum_by-cons (λ r. cond (has_document r) 1 0) (slot e) [])

pub stamps_alone : (e : Entry) → stamps_of (alone e) ≡ e.stamp ∷ []
stamps_alone e = sym (stamps-slots (slot e ∷ []) (apart e)) ∙ keys-sorted stamps_total stamps_same (e.stamp ∷ []) (rising_one stamp_cmp e.stamp)

pub with_alone : (e : Entry) → with_entry fin.empty e ≡ alone e
with_alone e = ap (λ o. cond (is_newer e o) (fin.insert fin.empty e.id e) fin.empty) (get-empty id_cmp e.id)

-- what takes an entry takes the map of it
pub newer_alone : (m : Entries) (e : Entry) (id : List ℕ) → fin.get (with_entry m e) id ≡ newer_of (fin.get m id) (fin.get (alone e) id)
newer_alone m e id = by (same_id id e.id) refl (is_newer e (fin.get m e.id)) refl
  where
    by : (s : Bool) → same_id id e.id ≡ s → (n : Bool) → is_newer e (fin.get m e.id) ≡ n → fin.get (with_entry m e) id ≡ newer_of (fin.get m id) (fin.get (alone e) id)
    by true s true n =
        ap (λ k. fin.get k id) (with_newer m e true n) ∙ get-insert nat_list_cmp_total m e.id e id ∙ ap (λ b. cond b (Some e) (fin.get m id)) s
        ∙ sym (ap (newer_of (fin.get m id)) (its_own e id (sym (same_id-is id e.id s))) ∙ ap (λ b. cond b (Some e) (fin.get m id)) (ap (λ q. is_newer e (fin.get m q)) (same_id-is id e.id s) ∙ n))
    by true s false n =
        ap (λ k. fin.get k id) (with_newer m e false n)
        ∙ sym (ap (newer_of (fin.get m id)) (its_own e id (sym (same_id-is id e.id s))) ∙ ap (λ b. cond b (Some e) (fin.get m id)) (ap (λ q. is_newer e (fin.get m q)) (same_id-is id e.id s) ∙ n))
    by false s true n =
        ap (λ k. fin.get k id) (with_newer m e true n) ∙ get-insert nat_list_cmp_total m e.id e id ∙ ap (λ b. cond b (Some e) (fin.get m id)) s
        ∙ sym (ap (newer_of (fin.get m id)) (get_alone e id ∙ ap (λ b. cond b (Some e) None) s))
    by false s false n =
        ap (λ k. fin.get k id) (with_newer m e false n)
        ∙ sym (ap (newer_of (fin.get m id)) (get_alone e id ∙ ap (λ b. cond b (Some e) None) s))

-- of the map of one entry stays all or nothing
module _ (p : List ℕ → Bool) where
  kept_one : (e : Entry) (b : Bool) → p e.id ≡ b → fin.retain_keys (alone e) p ≡ entries_of (cond b (slot e ∷ []) [])
  kept_one e b is = sym (filtered_entries p (slot e ∷ [])) ∙ ap (λ t. entries_of (cond t (slot e ∷ []) [])) is

  pub all_stays : (e : Entry) → p e.id ≡ true → alone e ≡ fin.retain_keys (alone e) p
  all_stays e is = sym (kept_one e true is)

  pub nothing_stays : (e : Entry) → p e.id ≡ false → fin.empty ≡ fin.retain_keys (alone e) p
  nothing_stays e is = sym (kept_one e false is)
