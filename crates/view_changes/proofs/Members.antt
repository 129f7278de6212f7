-- Members of lists and tests of lists.
use Rattle.std.proofs.Common.{◌≡◌, ◌&&◌, ◌||◌, ◌⊎◌, inl, inr, Bool, true, false, cond, T, List, [], ◌∷◌, map, filter, Some, refl, sym, ap, ◌∙◌, subst}
use mathlib.Core.Bool.{true≢false}
use Rattle.std.specs.List.{list_any}
use Rattle.std.specs.Cmp.{IsTotalOrder, tied_itself}
use Rattle.std.specs.Ordering.{eq_by_cmp, is_eq, is_lt}
use Rattle.std.specs.declared.cmp.Ordering.{Ordering}
use Rattle.std.specs.declared.cmp.Ordering.TheVariants.{Less, Equal, Greater}
use Rattle.std.specs.FinMap as fin
use Rattle.std.specs.FinMap.{IsAntisymmetric, entries_sorted, get-entries, is_sorted}
use Rattle.std.specs.FinMap.Entries.{below_all}

or-last : (a b : Bool) → b ≡ true → (a || b) ≡ true
or-last true b e = refl
or-last false b e = e

abbrev pub In : {A : Type 0} → A → List A → Type 0
In x [] = ⊥
In x (y ∷ ys) = (y ≡ x) ⊎ In x ys

pub in-map : {A B : Type 0} (f : A → B) (xs : List A) (y : B) → In y (map f xs) → (x : A) × In x xs × (f x ≡ y)
in-map f [] y h = absurd h
in-map f (x ∷ xs) y (inl e) = (x, inl refl, e)
in-map f (x ∷ xs) y (inr h) = let r = in-map f xs y h in (r.0, inr r.1, r.2)

pub map-in : {A B : Type 0} (f : A → B) (xs : List A) (x : A) → In x xs → In (f x) (map f xs)
map-in f [] x h = absurd h
map-in f (y ∷ ys) x (inl e) = inl (ap f e)
map-in f (y ∷ ys) x (inr h) = inr (map-in f ys x h)

-- a test that a member passes
pub in-any : {A : Type 0} (test : A → Bool) (xs : List A) (x : A) → In x xs → test x ≡ true → list_any test xs ≡ true
in-any test [] x h e = absurd h
in-any test (y ∷ ys) x (inl is) e = ap (λ t. t || list_any test ys) (ap test is ∙ e)
in-any test (y ∷ ys) x (inr h) e = or-last (test y) (list_any test ys) (in-any test ys x h e)

-- what is left of a list was there
pub any-filtered : {A : Type 0} (test keep : A → Bool) (xs : List A) → list_any test (filter keep xs) ≡ true → list_any test xs ≡ true
any-filtered test keep [] h = h
any-filtered test keep (x ∷ xs) h = by_test (keep x) h (any-filtered test keep xs)
  where
    stay : (a : Bool) → (a || list_any test (filter keep xs)) ≡ true → (list_any test (filter keep xs) ≡ true → list_any test xs ≡ true) → (a || list_any test xs) ≡ true
    stay true h ih = refl
    stay false h ih = ih h

    by_test : (t : Bool) → list_any test (cond t (x ∷ filter keep xs) (filter keep xs)) ≡ true → (list_any test (filter keep xs) ≡ true → list_any test xs ≡ true) → (test x || list_any test xs) ≡ true
    by_test true h ih = stay (test x) h ih
    by_test false h ih = or-last (test x) (list_any test xs) (ih h)

pub any-in : {A : Type 0} (test : A → Bool) (xs : List A) → list_any test xs ≡ true → (x : A) × In x xs × (test x ≡ true)
any-in test [] h = absurd (true≢false (sym h))
any-in test (x ∷ xs) h = by_test (test x) refl h (λ k. any-in test xs k)
  where
    by_test : (t : Bool) → test x ≡ t → (t || list_any test xs) ≡ true → (list_any test xs ≡ true → (y : _) × In y xs × (test y ≡ true)) → (y : _) × In y (x ∷ xs) × (test y ≡ true)
    by_test true e h ih = (x, inl refl, e)
    by_test false e h ih = let r = ih h in (r.0, inr r.1, r.2)

-- ---- finite maps

first : (a b : Bool) → T (a && b) → T a
first true b h = tt
first false b h = h

second : (a b : Bool) → T (a && b) → T b
second true b h = h
second false b h = absurd h

less : (o : Ordering) → T (is_lt o) → o ≡ Less
less Less p = refl
less Equal p = absurd p
less Greater p = absurd p

pub equal : (o : Ordering) → is_eq o ≡ true → o ≡ Equal
equal Less e = absurd (true≢false (sym e))
equal Equal e = refl
equal Greater e = absurd (true≢false (sym e))

tied-is : {K : Type 0} {R : K → K → Ordering} → IsAntisymmetric R → (a b : K) → eq_by_cmp R a b ≡ true → a ≡ b
tied-is same a b e = same a b (equal _ e)

module _ {K X : Type 0} {R : K → K → Ordering} (o : IsTotalOrder R) (same : IsAntisymmetric R) where
  above : (x : K) (es : List (K × X)) (k : K) (v : X) → T (below_all R x es) → In (k, v) es → R x k ≡ Less
  above x [] k v b h = absurd h
  above x (e ∷ es) k v b (inl is) = ap (λ (p : K × X). R x p.0) (sym is) ∙ less _ (first _ _ b)
  above x (e ∷ es) k v b (inr h) = above x es k v (second _ _ b) h

  pub find-in : (es : List (K × X)) (k : K) (v : X) → T (is_sorted R es) → In (k, v) es → fin.find R k es ≡ Some v
  find-in [] k v s h = absurd h
  find-in (e ∷ es) k v s (inl is) =
      ap (λ t. cond t (Some e.1) (fin.find R k es)) (ap (λ (p : K × X). eq_by_cmp R k p.0) is ∙ ap is_eq (tied_itself o k)) ∙ ap (λ (p : K × X). Some p.1) is
  find-in (e ∷ es) k v s (inr h) = by_test (eq_by_cmp R k e.0) refl (find-in es k v (second _ _ s) h)
    where
      below : R e.0 k ≡ Less
      below = above e.0 es k v (first _ _ s) h

      by_test : (t : Bool) → eq_by_cmp R k e.0 ≡ t → fin.find R k es ≡ Some v → cond t (Some e.1) (fin.find R k es) ≡ Some v
      by_test true t ih = let is = tied-is same k e.0 t in let turned : Equal ≡ Less = sym (tied_itself o k) ∙ ap (λ (x : K). R x k) is ∙ below in cc
      by_test false t ih = ih

  pub in-find : (es : List (K × X)) (k : K) (v : X) → fin.find R k es ≡ Some v → In v (map (λ e. e.1) es)
  in-find [] k v h = cc
  in-find (e ∷ es) k v h = by_test (eq_by_cmp R k e.0) h (λ g. in-find es k v g)
    where
      by_test : (t : Bool) → cond t (Some e.1) (fin.find R k es) ≡ Some v → (fin.find R k es ≡ Some v → In v (map (λ e. e.1) es)) → In v (map (λ e. e.1) (e ∷ es))
      by_test true h ih = inl (let g = h in cc)
      by_test false h ih = inr (ih h)

  -- a value of a map is that of a key
  pub value-get : (m : fin.FinMap R X) (v : X) → In v (fin.values m) → (k : K) × (fin.get m k ≡ Some v)
  value-get m v h = let r = in-map (λ e. e.1) (fin.entries m) v h in
      let pair : In ((r.0).0, v) (fin.entries m) = subst (λ (x : X). In ((r.0).0, x) (fin.entries m)) r.2 r.1 in
      ((r.0).0, get-entries m (r.0).0 ∙ find-in (fin.entries m) (r.0).0 v (entries_sorted m) pair)

  pub get-value : (m : fin.FinMap R X) (k : K) (v : X) → fin.get m k ≡ Some v → In v (fin.values m)
  get-value m k v h = in-find (fin.entries m) k v (sym (get-entries m k) ∙ h)
