-- Slots that are kept: no document has two, and where none is the document's.
use Rattle.std.proofs.Common.{◌≡◌, ◌≢◌, ℕ, ◌<◌, true, false, List, [], ◌∷◌, length, get_or, sym, ap, ap₂, subst, ◌∙◌, arith, None, inl, inr}
use Rattle.std.specs.List.{AllWithin}
use Rattle.std.specs.Ordering.{is_lt}
use Rattle.std.specs.declared.cmp.Ordering.TheVariants.{Less}
use Rattle.std.proofs.lemmas.Bool.{cases_order}
use Rattle.std.proofs.lemmas.Cmp.{tied_itself}
use Rattle.std.proofs.lemmas.List.Elements.{All-head, All-tail}
use Rattle.std.proofs.lemmas.Map.Keys.{sorted_tail, Less-from_sorted}
use Rattle.std.proofs.lemmas.Map.Views.{All-after_first}
use Rattle.entry_rows.specs.declared.slots.Slot.{Slot}
use Rattle.entry_rows.specs.Order.{mark, mark_cmp, slot_cmp, is_below, is_low}
use Rattle.entry_rows.proofs.OrderLaws.{rising_none, marks_total, not_less, less_lt, true_false, lower_before, higher_from}
use Rattle.entry_maps.specs.Slots.{entry_in, Apart, IsPlaced, path_by, IsKept}
use Rattle.entry_maps.proofs.SlotLists.{none_of_others}

-- a slot is not below its own mark
pub not_below_itself : (path : ℕ) (id : List ℕ) (s : Slot) → IsPlaced s → path ≡ path_by id → s.entry.id ≡ id → is_below path id s ≡ false
not_below_itself path id s placed at is =
    let same : mark s ≡ (path, id) = ap₂ (λ a b. (a, b)) (placed ∙ ap path_by is ∙ sym at) is in
    ap (λ m. is_lt (mark_cmp m (path, id))) same ∙ ap is_lt (tied_itself marks_total (path, id))

-- no slot is the document's, where the first one that is not below its mark is not
pub none_at : (slots : List Slot) (path : ℕ) (id : List ℕ) (at : ℕ) → IsKept slots → path ≡ path_by id → AllWithin (λ s. is_below path id s ≡ true) slots 0 at
    → AllWithin (λ s. is_below path id s ≡ false) slots at (length slots) → (at < length slots → (d : Slot) → (get_or slots at d).entry.id ≢ id) → entry_in slots id ≡ None
none_at slots path id at kept path_is before from other = none_of_others slots id (λ k d within is.
    let itself = not_below_itself path id (get_or slots k d) (kept.placed k d within) path_is is in
    elim (cases_order k at) [
      | inl e ↦ other (omega (arith, e)) d (ap (λ j. (get_or slots j d).entry.id) (sym e) ∙ is)
      | inr o ↦ elim o [
        | inl below ↦ true_false _ (before k d (omega arith) below) itself
        | inr past ↦
            let lower = Less-from_sorted slot_cmp slots at k d kept.rising past within in
            let same : mark (get_or slots k d) ≡ (path, id) = ap₂ (λ a b. (a, b)) (kept.placed k d within ∙ ap path_by is ∙ sym path_is) is in
            true_false _ (less_lt _ (subst (λ m. mark_cmp (mark (get_or slots at d)) m ≡ Less) same lower)) (from at d (omega arith) (omega arith))
      ]
    ])

-- no document has two slots
pub apart_of : (slots : List Slot) → IsKept slots → Apart slots
apart_of [] kept = tt
apart_of (s ∷ slots) kept = (
  none_of_others slots s.entry.id (λ k d lt is.
      let placed = All-tail IsPlaced s slots kept.placed k d lt in
      let same : mark s ≡ mark (get_or slots k d) = ap₂ (λ a b. (a, b)) (All-head IsPlaced s slots kept.placed ∙ ap path_by (sym is) ∙ sym placed) (sym is) in
      not_less _ (All-after_first slot_cmp s slots kept.rising k d lt) (ap (mark_cmp (mark s)) (sym same) ∙ tied_itself marks_total (mark s))),
  apart_of slots (record { placed = All-tail IsPlaced s slots kept.placed; rising = sorted_tail slot_cmp s slots kept.rising }),
)

-- no slot is the document's, where the first one of no lower path has another path
pub none_of_path : (slots : List Slot) (path : ℕ) (id : List ℕ) (at : ℕ) → IsKept slots → path ≡ path_by id → AllWithin (λ s. is_low path s ≡ true) slots 0 at
    → AllWithin (λ s. is_low path s ≡ false) slots at (length slots) → (at < length slots → (d : Slot) → (get_or slots at d).path ≢ path) → entry_in slots id ≡ None
none_of_path slots path id at kept path_is before from other =
    none_at slots path id at kept path_is (lower_before slots path id at kept.rising before) (higher_from slots path id at kept.rising from other)
    (λ lt d is. other lt d (kept.placed at d lt ∙ ap path_by is ∙ sym path_is))

pub kept_none : IsKept []
kept_none = record { placed = λ k d lt. absurd (omega arith); rising = rising_none slot_cmp }
