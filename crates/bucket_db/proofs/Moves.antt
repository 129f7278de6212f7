-- Rows that move one place on, and those that a test keeps.
use Rattle.std.proofs.Common.{◌≡◌, ℕ, zero, suc, ◌+◌, ◌-◌, ◌<◌, ◌≤◌, Bool, true, false, List, [], ◌∷◌, length, get_or, set, cond, Some, inl, inr, refl, sym, ap, ◌∙◌, arith}
use Rattle.std.specs.List.{CopiedTo, SameBelow, SameFrom, filter, insert, remove}
use Rattle.std.specs.Prelude.{slice_get}
use Rattle.std.proofs.lemmas.Bool.{cases_lt}
use Rattle.std.proofs.lemmas.List.{same_lists, get_or-set_same, get_or-set_other, length-set}
use Rattle.std.proofs.lemmas.List.Edits.{get_or-insert_at, get_or-insert_below, get_or-insert_above, get_or-remove_below, get_or-remove_above, length-insert, length-remove}

lengths : {X : Type 0} (xs ys : List X) (from to : ℕ) (x : X) → from < length xs → to < length xs → length ys ≡ length xs → length (set ys to x) ≡ length (insert (remove xs from) to x)
lengths xs ys from to x lt within same =
    let fewer = length-remove xs from lt in
    let more = length-insert (remove xs from) to x (omega (arith, fewer)) in
    omega (arith, length-set ys to x, fewer, more)

-- what stood behind the place comes one place forward
pub moved_forward : {X : Type 0} (xs ys : List X) (from to : ℕ) (x : X) → from < to → to < length xs → length ys ≡ length xs
    → CopiedTo xs ys (from + 1) from ((to + 1) - (from + 1)) → SameBelow xs ys from → SameFrom xs ys (from + ((to + 1) - (from + 1))) → set ys to x ≡ insert (remove xs from) to x
moved_forward {X} xs ys from to x less within same copied below behind = same_lists (set ys to x) (insert (remove xs from) to x) (lengths xs ys from to x (omega arith) within same) at
  where
    fewer : length (remove xs from) + 1 ≡ length xs
    fewer = length-remove xs from (omega arith)

    at : (k : ℕ) (d : X) → k < length (set ys to x) → get_or (set ys to x) k d ≡ get_or (insert (remove xs from) to x) k d
    at k d lt = elim (cases_lt k to) [
      | inl early ↦ elim (cases_lt k from) [
        | inl first ↦
            get_or-set_other ys to k x d (λ e. omega (arith, e)) ∙ below k d first
            ∙ sym (get_or-insert_below (remove xs from) to x d k early (omega (arith, fewer)) ∙ get_or-remove_below xs from d k first (omega arith))
        | inr late ↦
            let next : (from + 1) + (k - from) ≡ k + 1 = omega arith in
            get_or-set_other ys to k x d (λ e. omega (arith, e)) ∙ copied k d late (omega arith) ∙ ap (λ i. get_or xs i d) next
            ∙ sym (get_or-insert_below (remove xs from) to x d k early (omega (arith, fewer)) ∙ get_or-remove_above xs from d k late (omega arith))
      ]
      | inr late ↦ elim (cases_lt to k) [
        | inr here ↦
            let same_place : to ≡ k = omega arith in
            ap (λ i. get_or (set ys to x) i d) (sym same_place) ∙ get_or-set_same ys to x d (omega arith)
            ∙ sym (ap (λ i. get_or (insert (remove xs from) to x) i d) (sym same_place) ∙ get_or-insert_at (remove xs from) to x d (omega (arith, fewer)))
        | inl past ↦
            let before : (k - 1) + 1 ≡ k = omega arith in
            get_or-set_other ys to k x d (λ e. omega (arith, e)) ∙ behind k d (omega arith)
            ∙ sym (ap (λ i. get_or (insert (remove xs from) to x) i d) (sym before) ∙ get_or-insert_above (remove xs from) to x d (k - 1) (omega arith) (omega (arith, fewer))
            ∙ get_or-remove_above xs from d (k - 1) (omega arith) (omega arith) ∙ ap (λ i. get_or xs i d) before)
      ]
    ]

-- what stood before the place goes one place back
pub moved_back : {X : Type 0} (xs ys : List X) (from to : ℕ) (x : X) → to ≤ from → from < length xs → length ys ≡ length xs
    → CopiedTo xs ys to (to + 1) (from - to) → SameBelow xs ys (to + 1) → SameFrom xs ys ((to + 1) + (from - to)) → set ys to x ≡ insert (remove xs from) to x
moved_back {X} xs ys from to x le within same copied below behind = same_lists (set ys to x) (insert (remove xs from) to x) (lengths xs ys from to x within (omega arith) same) at
  where
    fewer : length (remove xs from) + 1 ≡ length xs
    fewer = length-remove xs from within

    at : (k : ℕ) (d : X) → k < length (set ys to x) → get_or (set ys to x) k d ≡ get_or (insert (remove xs from) to x) k d
    at k d lt = elim (cases_lt k to) [
      | inl early ↦
          get_or-set_other ys to k x d (λ e. omega (arith, e)) ∙ below k d (omega arith)
          ∙ sym (get_or-insert_below (remove xs from) to x d k early (omega (arith, fewer)) ∙ get_or-remove_below xs from d k (omega arith) within)
      | inr late ↦ elim (cases_lt to k) [
        | inr here ↦
            let same_place : to ≡ k = omega arith in
            ap (λ i. get_or (set ys to x) i d) (sym same_place) ∙ get_or-set_same ys to x d (omega arith)
            ∙ sym (ap (λ i. get_or (insert (remove xs from) to x) i d) (sym same_place) ∙ get_or-insert_at (remove xs from) to x d (omega (arith, fewer)))
        | inl past ↦
            let before : (k - 1) + 1 ≡ k = omega arith in
            let right : (get_or (insert (remove xs from) to x) k d ≡ get_or (remove xs from) (k - 1) d) =
            ap (λ i. get_or (insert (remove xs from) to x) i d) (sym before) ∙ get_or-insert_above (remove xs from) to x d (k - 1) (omega arith) (omega (arith, fewer)) in
            elim (cases_lt from k) [
              | inr moved ↦
                  let last : to + (k - (to + 1)) ≡ k - 1 = omega arith in
                  get_or-set_other ys to k x d (λ e. omega (arith, e)) ∙ copied k d (omega arith) (omega arith) ∙ ap (λ i. get_or xs i d) last
                  ∙ sym (right ∙ get_or-remove_below xs from d (k - 1) (omega arith) within)
              | inl stayed ↦
                  get_or-set_other ys to k x d (λ e. omega (arith, e)) ∙ behind k d (omega arith)
                  ∙ sym (right ∙ get_or-remove_above xs from d (k - 1) (omega arith) within ∙ ap (λ i. get_or xs i d) before)
            ]
      ]
    ]

-- ---- a filter that keeps all, all but one, all but two

kept : {X : Type 0} (p : X → Bool) (x : X) (xs ys : List X) → p x ≡ true → filter p xs ≡ ys → filter p (x ∷ xs) ≡ x ∷ ys
kept p x xs ys h e = ap (λ b. cond b (x ∷ filter p xs) (filter p xs)) h ∙ ap (λ zs. x ∷ zs) e

left_out : {X : Type 0} (p : X → Bool) (x : X) (xs ys : List X) → p x ≡ false → filter p xs ≡ ys → filter p (x ∷ xs) ≡ ys
left_out p x xs ys h e = ap (λ b. cond b (x ∷ filter p xs) (filter p xs)) h ∙ e

all_kept : {X : Type 0} (p : X → Bool) (xs : List X) → ((k : ℕ) (x : X) → slice_get xs k ≡ Some x → p x ≡ true) → filter p xs ≡ xs
all_kept p [] h = refl
all_kept p (x ∷ xs) h = kept p x xs xs (h 0 x refl) (all_kept p xs (λ k. h (suc k)))

but_one : {X : Type 0} (p : X → Bool) (xs : List X) (i : ℕ) → i < length xs → ((k : ℕ) (x : X) → slice_get xs k ≡ Some x → (k ≡ i → ⊥) → p x ≡ true)
    → ((x : X) → slice_get xs i ≡ Some x → p x ≡ false) → filter p xs ≡ remove xs i
but_one p [] i lt h one = absurd (omega arith)
but_one p (x ∷ xs) zero lt h one = left_out p x xs xs (one x refl) (all_kept p xs (λ k y found. h (suc k) y found (λ e. omega (arith, e))))
but_one p (x ∷ xs) (suc i) lt h one =
    kept p x xs (remove xs i) (h 0 x refl (λ e. omega (arith, e))) (but_one p xs i (omega arith) (λ k y found differs. h (suc k) y found (λ e. differs (omega (arith, e)))) one)

pub but_two : {X : Type 0} (p : X → Bool) (xs : List X) (i j : ℕ) → i < j → j < length xs
    → ((k : ℕ) (x : X) → slice_get xs k ≡ Some x → (k ≡ i → ⊥) → (k ≡ j → ⊥) → p x ≡ true)
    → ((x : X) → slice_get xs i ≡ Some x → p x ≡ false) → ((x : X) → slice_get xs j ≡ Some x → p x ≡ false) → filter p xs ≡ remove (remove xs j) i
but_two p [] i j less lt h one two = absurd (omega arith)
but_two p (x ∷ xs) i zero less lt h one two = absurd (omega arith)
but_two p (x ∷ xs) zero (suc j) less lt h one two =
    left_out p x xs (remove xs j) (one x refl) (but_one p xs j (omega arith) (λ k y found differs. h (suc k) y found (λ e. omega (arith, e)) (λ e. differs (omega (arith, e)))) two)
but_two p (x ∷ xs) (suc i) (suc j) less lt h one two =
    kept p x xs (remove (remove xs j) i) (h 0 x refl (λ e. omega (arith, e)) (λ e. omega (arith, e)))
    (but_two p xs i j (omega arith) (omega arith) (λ k y found first second. h (suc k) y found (λ e. first (omega (arith, e))) (λ e. second (omega (arith, e)))) one two)
