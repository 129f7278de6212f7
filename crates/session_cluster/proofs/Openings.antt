-- The lanes that are made, one after the other.
use Rattle.std.proofs.Common.{◌≡◌, ◌⊎◌, ◌<◌, ◌+◌, ℕ, zero, suc, List, [], ◌∷◌, ◌++◌, Some, inl, inr, refl, sym, ap, ◌∙◌, subst, arith, length, length-append, slice_get}
use Rattle.carriers.specs.declared.fate.Fate.{Fate}
use Rattle.lane_calls.specs.LaneValues.{LaneValue}
use Rattle.lane_lives.specs.declared.setting.Setting.{Setting}
use Rattle.lane_lives.specs.Serving.{IsServing}
use Rattle.session_cluster.specs.Cells.{Cell, ShownLane, lanes_in}
use Rattle.session_cluster.specs.Deeds.{first_told}
use Rattle.session_cluster.specs.Steps.{EachLane, IsSettledLane}
use Rattle.session_cluster.specs.Keeping.{AreOpenTo, AreOpen, IsKept}

-- an element of a list with one more at its end
slice_get_push : {X : Type 0} (xs : List X) (x : X) (k : ℕ) (y : X) → slice_get (xs ++ x ∷ []) k ≡ Some y → ((k < length xs) × (slice_get xs k ≡ Some y)) ⊎ ((k ≡ length xs) × (x ≡ y))
slice_get_push [] x zero y h = inr (refl, cc)
slice_get_push [] x (suc k) y h = cc
slice_get_push (z ∷ xs) x zero y h = inl (omega arith, h)
slice_get_push (z ∷ xs) x (suc k) y h = elim (slice_get_push xs x k y h) [ inl old ↦ inl (omega (arith, old.0), old.1) | inr new ↦ inr (omega (arith, new.0), new.1) ]

pub none_open : (s : Setting) (plans : ℕ → List Fate) (vs : List LaneValue) → vs ≡ [] → AreOpenTo s plans 0 vs
none_open s plans vs none = subst (AreOpenTo s plans 0) (sym none) (record { count_is = refl; serving = λ lane v at. absurd (no_item lane v at) })
  where
    no_item : (lane : ℕ) (v : LaneValue) → slice_get [] lane ≡ Some v → ⊥
    no_item zero v h = cc h
    no_item (suc lane) v h = cc h

pub none_opened : (s : Setting) (plans : ℕ → List Fate) (xs : List ShownLane) → xs ≡ [] → AreOpenTo s plans 0 (lanes_in xs)
none_opened s plans xs none = none_open s plans (lanes_in xs) (ap lanes_in none)

pub one_more_open : (s : Setting) (plans : ℕ → List Fate) (n : ℕ) (vs ws : List LaneValue) (v : LaneValue) → AreOpenTo s plans n vs → IsServing s (plans n) n [] v → ws ≡ vs ++ v ∷ [] → AreOpenTo s plans (n + 1) ws
one_more_open s plans n vs ws v open_to is now = subst (AreOpenTo s plans (n + 1)) (sym now) (record {
  count_is = omega (arith, length-append vs (v ∷ []), open_to.count_is);
  serving = λ lane w at. elim (slice_get_push vs v lane w at) [
    | inl old ↦ open_to.serving lane w old.1
    | inr new ↦ subst (λ m. IsServing s (plans m) m [] w) (sym (new.0 ∙ open_to.count_is)) (subst (IsServing s (plans n) n []) new.1 is)
  ];
})

pub none_settled : (xs : List ShownLane) → xs ≡ [] → EachLane IsSettledLane xs
none_settled xs none = subst (EachLane IsSettledLane) (sym none) (λ lane s at. absurd (no_item lane s at))
  where
    no_item : (lane : ℕ) (s : ShownLane) → slice_get [] lane ≡ Some s → ⊥
    no_item zero s h = cc h
    no_item (suc lane) s h = cc h

pub one_more_settled : (xs ys : List ShownLane) (s : ShownLane) → EachLane IsSettledLane xs → IsSettledLane s → ys ≡ xs ++ s ∷ [] → EachLane IsSettledLane ys
one_more_settled xs ys s settled is now = subst (EachLane IsSettledLane) (sym now) (λ lane t at. elim (slice_get_push xs s lane t at) [
  | inl old ↦ settled lane t old.1
  | inr new ↦ subst IsSettledLane new.1 is
])

pub kept_none : (s : Setting) (plans : ℕ → List Fate) (vs : List LaneValue) (c : Cell) → AreOpen s plans vs → c ≡ record { bits = s.bits; told = first_told s; lanes = vs; dealt = 0; upkeeps = []; fronts = [] } → IsKept s plans [] c
kept_none s plans vs c opened now = subst (IsKept s plans []) (sym now) (record { bits = refl; told = refl; dealt = refl; lanes = opened.count_is; serving = λ lane v at. opened.serving lane v at; unkept = λ line later. refl; unread = λ line later. refl })
