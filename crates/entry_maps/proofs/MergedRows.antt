-- Rows that a merge leaves as they are: it takes place between those below and those above.
use Rattle.std.proofs.Common.{◌≡◌, ◌-◌, ◌<◌, List, [], ◌∷◌, ◌++◌, length, get_or, refl, sym, ap, subst, ◌∙◌, arith}
use Rattle.std.specs.List.{All}
use Rattle.std.specs.List.Sorted.{IsStrictlySortedBy}
use Rattle.std.specs.Ordering.{ordering_reverse, match_ordering}
use Rattle.std.specs.declared.cmp.Ordering.{Ordering}
use Rattle.std.specs.declared.cmp.Ordering.TheVariants.{Less, Equal, Greater}
use Rattle.std.proofs.lemmas.List.{append-nil}
use Rattle.std.proofs.lemmas.List.Elements.{All-head, All-tail}
use Rattle.entry_rows.specs.declared.slots.Slot.{Slot}
use Rattle.entry_rows.specs.Order.{slot_cmp, IsLower}
use Rattle.entry_rows.proofs.OrderLaws.{slots_total}
use Rattle.entry_rows.proofs.RowLaws.{lower_all}
use Rattle.entry_maps.specs.Merging.{newer_slot, merged_from, merged}

pub merged_front : (ls ms : List Slot) (y : Slot) (ys : List Slot) → All (λ a. IsLower a y) ls → merged (ls ++ ms) (y ∷ ys) ≡ ls ++ merged ms (y ∷ ys)
unfolding merged
merged_front [] ms y ys low = refl
merged_front (a ∷ ls) ms y ys low =
    ap (λ o. match_ordering o (a ∷ merged (ls ++ ms) (y ∷ ys)) (newer_slot a y ∷ merged (ls ++ ms) ys) (y ∷ merged_from a (ls ++ ms) (merged (ls ++ ms)) ys)) (All-head (λ a. IsLower a y) a ls low)
    ∙ ap (λ l. a ∷ l) (merged_front ls ms y ys (All-tail (λ a. IsLower a y) a ls low))

-- all of a list stand below the first of another
abbrev AreLower : List Slot → List Slot → Type 0
AreLower ys [] = Unit {0}
AreLower ys (b ∷ bs) = All (λ y. IsLower y b) ys

lower_tail : (y : Slot) (ys bs : List Slot) → AreLower (y ∷ ys) bs → AreLower ys bs
lower_tail y ys [] low = tt
lower_tail y ys (b ∷ bs) low = All-tail (λ y. IsLower y b) y ys low

behind_all : (b : Slot) (bs : List Slot) (rest : List Slot → List Slot) (ys : List Slot) → All (λ y. IsLower y b) ys → merged_from b bs rest ys ≡ ys ++ b ∷ bs
behind_all b bs rest [] low = refl
behind_all b bs rest (y ∷ ys) low =
    ap (λ o. match_ordering o (b ∷ rest (y ∷ ys)) (newer_slot b y ∷ rest ys) (y ∷ merged_from b bs rest ys)) (slots_total.antisymm b y ∙ ap ordering_reverse (All-head (λ y. IsLower y b) y ys low))
    ∙ ap (λ l. y ∷ l) (behind_all b bs rest ys (All-tail (λ y. IsLower y b) y ys low))

none_before : (bs ys : List Slot) → AreLower ys bs → merged bs ys ≡ ys ++ bs
unfolding merged
none_before [] ys low = sym (append-nil ys)
none_before (b ∷ bs) ys low = behind_all b bs (merged bs) ys low

back_from : (m : Slot) (ms bs : List Slot) (rest more : List Slot → List Slot) → ((zs : List Slot) → AreLower zs bs → more zs ≡ rest zs ++ bs)
    → (ys : List Slot) → AreLower ys bs → merged_from m (ms ++ bs) more ys ≡ merged_from m ms rest ys ++ bs
back_from m ms bs rest more further [] low = refl
back_from m ms bs rest more further (y ∷ ys) low = by_order (back_from m ms bs rest more further ys (lower_tail y ys bs low)) (slot_cmp m y)
  where
    by_order : merged_from m (ms ++ bs) more ys ≡ merged_from m ms rest ys ++ bs → (o : Ordering) → match_ordering o (m ∷ more (y ∷ ys)) (newer_slot m y ∷ more ys) (y ∷ merged_from m (ms ++ bs) more ys)
        ≡ match_ordering o (m ∷ rest (y ∷ ys)) (newer_slot m y ∷ rest ys) (y ∷ merged_from m ms rest ys) ++ bs
    by_order later Less = ap (λ l. m ∷ l) (further (y ∷ ys) low)
    by_order later Equal = ap (λ l. newer_slot m y ∷ l) (further ys (lower_tail y ys bs low))
    by_order later Greater = ap (λ l. y ∷ l) later

merged_back : (ms bs ys : List Slot) → AreLower ys bs → merged (ms ++ bs) ys ≡ merged ms ys ++ bs
unfolding merged
merged_back [] bs ys low = none_before bs ys low
merged_back (m ∷ ms) bs ys low = back_from m ms bs (merged ms) (merged (ms ++ bs)) (λ zs l. merged_back ms bs zs l) ys low

-- all that lies above the last of a list lies above all of it
lower_first : (ys : List Slot) (last : Slot) (bs : List Slot) → IsStrictlySortedBy slot_cmp ys → 0 < length ys → last ≡ get_or ys (length ys - 1) last → All (λ b. IsLower last b) bs → AreLower ys bs
lower_first ys last [] rising some is above = tt
lower_first ys last (b ∷ bs) rising some is above = lower_all ys last b rising some is (All-head (λ b. IsLower last b) b bs above)

-- the first of a list, by its place
first_lower : (ls ys : List Slot) (first : Slot) → 0 < length ys → first ≡ get_or ys 0 first → (ms : List Slot) → All (λ a. IsLower a first) ls → merged (ls ++ ms) ys ≡ ls ++ merged ms ys
first_lower ls [] first some is ms low = absurd (omega arith)
first_lower ls (y ∷ ys) first some is ms low = merged_front ls ms y ys (subst (λ y. All (λ a. IsLower a y) ls) is low)

pub merged_between : (ls ms bs ys : List Slot) (first last : Slot) → IsStrictlySortedBy slot_cmp ys → 0 < length ys → first ≡ get_or ys 0 first → last ≡ get_or ys (length ys - 1) last
    → All (λ a. IsLower a first) ls → All (λ b. IsLower last b) bs → merged (ls ++ (ms ++ bs)) ys ≡ ls ++ (merged ms ys ++ bs)
merged_between ls ms bs ys first last rising some is_first is_last low high =
    first_lower ls ys first some is_first (ms ++ bs) low ∙ ap (λ l. ls ++ l) (merged_back ms bs ys (lower_first ys last bs rising some is_last high))
