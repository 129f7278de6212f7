-- A list of which each is so at its place, with one more at its end, and with one less; and the numbers that stand in one.
use Rattle.std.proofs.Common.{◌≡◌, ◌≢◌, ◌<◌, ◌+◌, ℕ, suc, List, [], ◌∷◌, ◌++◌, map, length, reverse, get_or, Some, inl, inr, refl, sym, ap, ◌∙◌, subst, slice_get, arith}
use Rattle.std.specs.List.{remove}
use Rattle.std.proofs.lemmas.List.{reverse-append, length-reverse}
use Rattle.std.proofs.lemmas.Option.{get_or_from_slice_get}
use Rattle.proof_basics.proofs.Options.{none_some, some_same}
use Rattle.lane_core.proofs.Places.{skip, skip-back, get-remove, get-map-back, get-within, get-old, get-new, get-push-cases, map-remove}
use Rattle.lane_locks.specs.Powers.{Stands}
use Rattle.lane_locks.specs.Lanes.{EachAt}

module _ {A : Type 0} (P : ℕ → A → Type 0) where
  pub each-none : (xs : List A) → xs ≡ [] → EachAt P xs
  each-none xs is place x at = absurd (none_some x (ap (λ (ys : List A). slice_get ys place) (sym is) ∙ at))

  pub each-shorter : (all xs : List A) (x : A) → all ≡ xs ++ x ∷ [] → EachAt P all → EachAt P xs
  each-shorter all xs x is each place y at = each place y (ap (λ (ys : List A). slice_get ys place) is ∙ get-old xs x place y at)

  pub each-last : (all xs : List A) (x : A) → all ≡ xs ++ x ∷ [] → EachAt P all → P (length xs) x
  each-last all xs x is each = each (length xs) x (ap (λ (ys : List A). slice_get ys (length xs)) is ∙ get-new xs x)

  pub each-longer : (all xs : List A) (x : A) → all ≡ xs ++ x ∷ [] → EachAt P xs → P (length xs) x → EachAt P all
  each-longer all xs x is each last place y at = elim (get-push-cases xs x place y (ap (λ (ys : List A). slice_get ys place) (sym is) ∙ at)) [
    | inl old ↦ each place y old
    | inr new ↦ subst (λ (k : ℕ). P k y) (sym new.0) (subst (λ (z : A). P (length xs) z) (sym new.1) last)
  ]

-- numbers that fall to 0 are their places from the end
pub falling-reversed : (ns : List ℕ) → EachAt (λ place n. n + place + 1 ≡ length ns) ns → EachAt (λ place n. n ≡ place) (reverse ns)
falling-reversed [] each = λ place n at. absurd (none_some n at)
falling-reversed (m ∷ ns) each =
    let less : EachAt (λ place n. n + place + 1 ≡ length ns) ns = λ place n at. omega (arith, each (suc place) n at) in
    let last : m ≡ length (reverse ns) = omega (arith, each 0 m refl, length-reverse ns) in
    each-longer (λ place n. n ≡ place) (reverse (m ∷ ns)) (reverse ns) m (reverse-append (m ∷ []) ns) (falling-reversed ns less) last

pub each-less : {A : Type 0} (Q : A → Type 0) (all xs : List A) (i : ℕ) → all ≡ remove xs i → EachAt (λ _ y. Q y) xs → EachAt (λ _ y. Q y) all
each-less {A} Q all xs i is each place y at = each (skip i place) y (sym (get-remove xs i place) ∙ (ap (λ (ys : List A). slice_get ys place) (sym is) ∙ at))

module _ {A : Type 0} (number : A → ℕ) where
  -- a number stands on where that of another is removed
  pub stands-less : (all xs : List A) (i n k : ℕ) → all ≡ remove xs i → slice_get (map number xs) i ≡ Some n → k ≢ n → Stands k (map number xs) → Stands k (map number all)
  stands-less all xs i n k is found off s =
      let ns = map number xs in
      let apart : s.0 ≢ i = λ e. off (some_same k n (sym s.1 ∙ (ap (λ (j : ℕ). slice_get ns j) e ∙ found))) in
      let place = skip-back i s.0 apart in
      (place.0, ap (λ (ys : List A). slice_get (map number ys) place.0) is ∙ (ap (λ (ms : List ℕ). slice_get ms place.0) (map-remove number xs i) ∙ (get-remove ns i place.0 ∙ (ap (λ (j : ℕ). slice_get ns j) place.1 ∙ s.1))))

  -- one that stands there is not at no place
  pub stands-not : (xs : List A) (n : ℕ) → ((k : ℕ) (d : A) → k < length xs → number (get_or xs k d) ≡ n → ⊥) → Stands n (map number xs) → ⊥
  stands-not xs n none s =
      let x = get-map-back number xs s.0 n s.1 in
      none s.0 x.0 (get-within xs s.0 x.0 x.1) (ap number (get_or_from_slice_get xs s.0 x.0 x.0 x.1) ∙ sym x.2)
