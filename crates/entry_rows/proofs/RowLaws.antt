-- The slots before, in and behind some rows, and the order around a mark.
use Rattle.std.proofs.Common.{◌≡◌, ℕ, zero, suc, ◌+◌, ◌-◌, ◌<◌, ◌≤◌, false, List, [], ◌∷◌, ◌++◌, length, get_or, take, drop, refl, sym, ap, subst, ◌∙◌, arith, inl, inr, slice_range}
use Rattle.std.specs.List.{flat_map, All, AllWithin}
use Rattle.std.specs.List.Sorted.{IsStrictlySortedBy}
use Rattle.std.specs.Ordering.{is_lt, ordering_reverse}
use Rattle.std.specs.declared.cmp.Ordering.{Ordering}
use Rattle.std.specs.declared.cmp.Ordering.TheVariants.{Less, Equal, Greater}
use Rattle.std.proofs.Math.Seq.{drop-append_seam}
use Rattle.std.proofs.lemmas.Bool.{cases_order}
use Rattle.std.proofs.lemmas.Grind.{flat_map-append}
use Rattle.std.proofs.lemmas.List.{take-append-drop, drop-drop, get_or_append_left, get_or-append-add, length-append}
use Rattle.std.proofs.lemmas.List.Elements.{All-drop}
use Rattle.std.proofs.lemmas.Map.Keys.{Less-from_sorted}
use Rattle.entry_rows.specs.declared.slots.Slot.{Slot}
use Rattle.entry_rows.specs.Order.{slot_cmp, is_below, IsLower}
use Rattle.entry_rows.proofs.OrderLaws.{slots_total}

-- ---- the slots before some rows, those of the rows and those behind them

module _ {R X : Type 0} (f : R → List X) (rs : List R) where
  pub in_two : (i : ℕ) → flat_map f rs ≡ flat_map f (take i rs) ++ flat_map f (drop i rs)
  in_two i = ap (flat_map f) (sym (take-append-drop i rs)) ∙ flat_map-append f (take i rs) (drop i rs)

  -- those behind a row are some rows and what lies behind these
  from_row_on : (i j : ℕ) → i ≤ j → flat_map f (drop i rs) ≡ flat_map f (slice_range rs i j) ++ flat_map f (drop j rs)
  from_row_on i j le =
      ap (flat_map f) (sym (take-append-drop (j - i) (drop i rs))) ∙ flat_map-append f (take (j - i) (drop i rs)) (drop (j - i) (drop i rs))
      ∙ ap (λ l. flat_map f (slice_range rs i j) ++ flat_map f l) (drop-drop (j - i) i rs ∙ ap (λ n. drop n rs) (omega arith))

  pub in_three : (i j : ℕ) → i ≤ j → flat_map f rs ≡ flat_map f (take i rs) ++ (flat_map f (slice_range rs i j) ++ flat_map f (drop j rs))
  in_three i j le = in_two i ∙ ap (λ l. flat_map f (take i rs) ++ l) (from_row_on i j le)

  -- what holds of the first so many holds of the rows among them
  pub all_before : (P : X → Type 0) (i n : ℕ) → length (flat_map f (take i rs)) ≤ n → AllWithin P (flat_map f rs) 0 n → All P (flat_map f (take i rs))
  all_before P i n le all k d lt =
      subst P (ap (λ l. get_or l k d) (in_two i) ∙ get_or_append_left (flat_map f (take i rs)) (flat_map f (drop i rs)) d k lt) (all k d (omega arith) (omega arith))

  pub all_behind : (P : X → Type 0) (j n : ℕ) → n ≤ length (flat_map f (take j rs)) → AllWithin P (flat_map f rs) n (length (flat_map f rs)) → All P (flat_map f (drop j rs))
  all_behind P j n le all k d lt =
      let front = flat_map f (take j rs) in
      let back = flat_map f (drop j rs) in
      subst P (ap (λ l. get_or l (length front + k) d) (in_two j) ∙ get_or-append-add front back k d) (all (length front + k) d (omega arith) (omega (arith, ap length (in_two j), length-append front back, lt)))

  pub all_later : (P : X → Type 0) (i j : ℕ) → i ≤ j → All P (flat_map f (drop i rs)) → All P (flat_map f (drop j rs))
  all_later P i j le all =
      let mid = flat_map f (slice_range rs i j) in
      let back = flat_map f (drop j rs) in
      subst (All P) (ap (drop (length mid)) (from_row_on i j le) ∙ drop-append_seam mid back) (All-drop P (length mid) (flat_map f (drop i rs)) all)

-- some elements stand in some row
pub some_rows : {R X : Type 0} (f : R → List X) (rs : List R) → 0 < length (flat_map f rs) → 0 < length rs
some_rows f [] lt = lt
some_rows f (r ∷ rs) lt = omega arith

-- ---- the order around a mark

-- a slot above one that doesn't stand below a mark is above the mark
pub above_mark : (s r last : Slot) → is_below last.path last.entry.id s ≡ false → slot_cmp s r ≡ Less → IsLower last r
above_mark s r last low less = by_order (slot_cmp s last) refl low
  where
    by_order : (o : Ordering) → slot_cmp s last ≡ o → is_lt o ≡ false → slot_cmp last r ≡ Less
    by_order Less is e = cc
    by_order Equal is e = sym (slots_total.congr s last r is) ∙ less
    by_order Greater is e = slots_total.trans last s r (slots_total.antisymm last s ∙ ap ordering_reverse is) less

-- each slot of a list stands below what its last one stands below
pub lower_all : (ys : List Slot) (last b : Slot) → IsStrictlySortedBy slot_cmp ys → 0 < length ys → last ≡ get_or ys (length ys - 1) last → IsLower last b → All (λ y. IsLower y b) ys
lower_all ys last b rising some is less k d lt = elim (cases_order k (length ys - 1)) [
  | inl e ↦ subst (λ y. IsLower y b) (is ∙ same ys (length ys - 1) last d (omega arith) ∙ ap (λ n. get_or ys n d) (sym e)) less
  | inr o ↦ elim o [
    | inl below ↦
        let less1 = Less-from_sorted slot_cmp ys k (length ys - 1) d rising below (omega arith) in
        slots_total.trans (get_or ys k d) last b (subst (λ y. slot_cmp (get_or ys k d) y ≡ Less) (same ys (length ys - 1) d last (omega arith) ∙ sym is) less1) less
    | inr past ↦ absurd (omega arith)
  ]
]
  where
    same : (xs : List Slot) (n : ℕ) (d e : Slot) → n < length xs → get_or xs n d ≡ get_or xs n e
    same [] n d e lt = absurd (omega arith)
    same (x ∷ xs) zero d e lt = refl
    same (x ∷ xs) (suc n) d e lt = same xs n d e (omega (arith, lt))
