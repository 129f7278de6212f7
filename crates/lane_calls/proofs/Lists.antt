-- What holds at each place of a list, and journals that became longer.
use Rattle.std.proofs.Common.{◌≡◌, ◌≢◌, ◌⊎◌, ℕ, zero, suc, List, [], ◌∷◌, ◌++◌, length, Option, Some, None, inl, inr, refl, sym, ap, ◌∙◌, subst, slice_get, slice_set, arith}
use Rattle.std.specs.List.{remove}
use Rattle.std.proofs.lemmas.List.{append_assoc}
use Rattle.proof_basics.proofs.Options.{some_same, none_some}
use Rattle.proof_basics.proofs.Lists.{left_at}
use Rattle.lane_journals.specs.declared.event.LaneEvent.{LaneEvent}
use Rattle.lane_calls.specs.Growth.{IsLater}

module _ {A : Type 0} (P : A → Type 0) where
  abbrev pub AtEach : List A → Type 0
  AtEach xs = (k : ℕ) (x : A) → slice_get xs k ≡ Some x → P x

  pub each-none : (xs : List A) → xs ≡ [] → AtEach xs
  each-none xs none k x h = let e : ◌≡◌ {A = Option A} None (Some x) = ap (λ (ys : List A). slice_get ys k) (sym none) ∙ h in absurd (none_some x e)

  pub each-push : (xs : List A) (y : A) → AtEach xs → P y → AtEach (xs ++ y ∷ [])
  each-push [] y e p zero x h = subst P (some_same y x h) p
  each-push [] y e p (suc k) x h = absurd (none_some x h)
  each-push (z ∷ xs) y e p zero x h = e zero x h
  each-push (z ∷ xs) y e p (suc k) x h = each-push xs y (λ j w g. e (suc j) w g) p k x h

  -- all but the one at a place hold on
  pub each-set : (xs : List A) (i : ℕ) (y : A) → ((k : ℕ) (x : A) → k ≢ i → slice_get xs k ≡ Some x → P x) → P y → AtEach (slice_set xs i y)
  each-set [] i y e p k x h = absurd (none_some x h)
  each-set (z ∷ xs) zero y e p zero x h = subst P (some_same y x h) p
  each-set (z ∷ xs) zero y e p (suc k) x h = e (suc k) x (λ q. (let f : suc k ≡ zero = q in cc)) h
  each-set (z ∷ xs) (suc i) y e p zero x h = e zero x (λ q. (let f : zero ≡ suc i = q in cc)) h
  each-set (z ∷ xs) (suc i) y e p (suc k) x h = each-set xs i y (λ j w off g. e (suc j) w (λ q. off (let f : suc j ≡ suc i = q in cc)) g) p k x h

  pub each-remove : (xs : List A) (i : ℕ) → ((k : ℕ) (x : A) → k ≢ i → slice_get xs k ≡ Some x → P x) → AtEach (remove xs i)
  each-remove xs i e k x h = elim (left_at xs i k x h) [
    | inl here ↦ e k x (λ q. omega (arith, here.1, q)) here.0
    | inr on ↦ e (suc k) x (λ q. omega (arith, on.1, q)) on.0
  ]

-- ---- elements of which no two are the same in something

module _ {A X : Type 0} (f : A → X) where
  abbrev pub ApartBy : List A → Type 0
  ApartBy xs = (a b : ℕ) (x y : A) → slice_get xs a ≡ Some x → slice_get xs b ≡ Some y → f x ≡ f y → a ≡ b

  pub apart-none : (xs : List A) → xs ≡ [] → ApartBy xs
  apart-none xs none a b x y h g same = let e : ◌≡◌ {A = Option A} None (Some x) = ap (λ (ys : List A). slice_get ys a) (sym none) ∙ h in absurd (none_some x e)

  push-cases : (xs : List A) (y : A) (k : ℕ) (z : A) → slice_get (xs ++ y ∷ []) k ≡ Some z → (slice_get xs k ≡ Some z) ⊎ ((k ≡ length xs) × (z ≡ y))
  push-cases [] y zero z h = inr (refl, sym (some_same y z h))
  push-cases [] y (suc k) z h = absurd (none_some z h)
  push-cases (x ∷ xs) y zero z h = inl h
  push-cases (x ∷ xs) y (suc k) z h = elim (push-cases xs y k z h) [ inl old ↦ inl old | inr new ↦ inr (ap suc new.0, new.1) ]

  pub apart-push : (xs : List A) (y : A) → ApartBy xs → ((k : ℕ) (x : A) → slice_get xs k ≡ Some x → f x ≡ f y → ⊥) → ApartBy (xs ++ y ∷ [])
  apart-push xs y are new a b x z h g same = elim (push-cases xs y a x h) [
    | inl old ↦ elim (push-cases xs y b z g) [
      | inl old' ↦ are a b x z old old' same
      | inr last ↦ absurd (new a x old (same ∙ ap f last.1))
    ]
    | inr last ↦ elim (push-cases xs y b z g) [
      | inl old' ↦ absurd (new b z old' (sym same ∙ ap f last.1))
      | inr last' ↦ last.0 ∙ sym last'.0
    ]
  ]

  -- who is at a place was there, or was the one
  was-there : (xs : List A) (i : ℕ) (x y : A) → slice_get xs i ≡ Some x → f y ≡ f x → (k : ℕ) (z : A) → slice_get (slice_set xs i y) k ≡ Some z → (w : A) × (slice_get xs k ≡ Some w) × (f z ≡ f w)
  was-there [] i x y found same k z h = absurd (none_some x found)
  was-there (w ∷ xs) zero x y found same zero z h = (w, refl, ap f (sym (some_same y z h)) ∙ same ∙ ap f (sym (some_same w x found)))
  was-there (w ∷ xs) zero x y found same (suc k) z h = (z, h, refl)
  was-there (w ∷ xs) (suc i) x y found same zero z h = (z, h, refl)
  was-there (w ∷ xs) (suc i) x y found same (suc k) z h = was-there xs i x y found same k z h

  pub apart-set : (xs : List A) (i : ℕ) (x y : A) → slice_get xs i ≡ Some x → f y ≡ f x → ApartBy xs → ApartBy (slice_set xs i y)
  apart-set xs i x y found same are a b p q h g eq =
      let v = was-there xs i x y found same a p h in
      let w = was-there xs i x y found same b q g in
      are a b v.0 w.0 v.1 w.1 (sym v.2 ∙ eq ∙ w.2)

  pub apart-remove : (xs : List A) (i : ℕ) → ApartBy xs → ApartBy (remove xs i)
  apart-remove xs i are a b x y h g same = elim (left_at xs i a x h) [
    | inl p ↦ elim (left_at xs i b y g) [
      | inl q ↦ are a b x y p.0 q.0 same
      | inr q ↦ (let e = are a (suc b) x y p.0 q.0 same in absurd (omega (arith, e, p.1, q.1)))
    ]
    | inr p ↦ elim (left_at xs i b y g) [
      | inl q ↦ (let e = are (suc a) b x y p.0 q.0 same in absurd (omega (arith, e, p.1, q.1)))
      | inr q ↦ (let e = are (suc a) (suc b) x y p.0 q.0 same in omega (arith, e))
    ]
  ]

-- ---- later journals

pub later-same : (J : List LaneEvent) → IsLater J J
later-same J = record { added = []; is = refl }

pub later-more : (J K : List LaneEvent) (e : LaneEvent) → IsLater J K → IsLater J (e ∷ K)
later-more J K e l = record { added = e ∷ l.added; is = ap (λ (M : List LaneEvent). e ∷ M) l.is }

pub later-then : (I J K : List LaneEvent) → IsLater I J → IsLater J K → IsLater I K
later-then I J K a b = record { added = b.added ++ a.added; is = b.is ∙ ap (λ (M : List LaneEvent). b.added ++ M) a.is ∙ sym (append_assoc b.added a.added I) }
