-- The versions before one, and what becomes of the places of each.
use Rattle.std.proofs.Common.{◌≡◌, ◌==◌, ◌<◌, ◌++◌, ℕ, suc, Bool, true, false, List, [], ◌∷◌, Option, Some, None, length, get_or, set, if◌then◌else◌, refl, sym, ap, ◌∙◌, arith}
use Rattle.std.proofs.lemmas.Bool.Decides.{nat_tests}
use Rattle.stamps.specs.declared.stamp.Stamp.{Stamp}
use Rattle.stamps.specs.declared.places.VersionPlaces.{VersionPlaces}
use Rattle.stamps.specs.Places.{first_of, under}

-- a version that isn't there has no places
pub under-none : (v : ℕ) (xs : List VersionPlaces) → first_of v xs ≡ length xs → under v xs ≡ []
under-none v [] h = refl
under-none v (x ∷ xs) h = by_test (under-none v xs) (x.version == v) h
  where
    by_test : (first_of v xs ≡ length xs → under v xs ≡ []) → (b : Bool) → (if b then 0 else suc (first_of v xs)) ≡ suc (length xs) → (if b then x.places.items else under v xs) ≡ []
    by_test rest true g = absurd (omega (arith, g))
    by_test rest false g = rest (omega (arith, g))

-- the version that is found there
pub version-there : (v : ℕ) (xs : List VersionPlaces) (d : VersionPlaces) → first_of v xs < length xs → (get_or xs (first_of v xs) d).version ≡ v
version-there v [] d h = absurd (omega (arith, h))
version-there v (x ∷ xs) d h = by_test (version-there v xs d) (x.version == v) refl h
  where
    by_test : (first_of v xs < length xs → (get_or xs (first_of v xs) d).version ≡ v) → (b : Bool) → (x.version == v) ≡ b → (if b then 0 else suc (first_of v xs)) < suc (length xs)
        → (get_or (x ∷ xs) (if b then 0 else suc (first_of v xs)) d).version ≡ v
    by_test rest true t g = grind (arith, nat_tests)
    by_test rest false t g = rest (omega (arith, g))

pub under-there : (v : ℕ) (xs : List VersionPlaces) (d : VersionPlaces) → first_of v xs < length xs → under v xs ≡ (get_or xs (first_of v xs) d).places.items
under-there v [] d h = absurd (omega (arith, h))
under-there v (x ∷ xs) d h = by_test (under-there v xs d) (x.version == v) h
  where
    by_test : (first_of v xs < length xs → under v xs ≡ (get_or xs (first_of v xs) d).places.items) → (b : Bool) → (if b then 0 else suc (first_of v xs)) < suc (length xs)
        → (if b then x.places.items else under v xs) ≡ (get_or (x ∷ xs) (if b then 0 else suc (first_of v xs)) d).places.items
    by_test rest true g = refl
    by_test rest false g = rest (omega (arith, g))

-- ---- a version more, which has no places

pub under-push : (xs : List VersionPlaces) (y : VersionPlaces) → y.places.items ≡ [] → (w : ℕ) → under w (xs ++ y ∷ []) ≡ under w xs
under-push [] y none w = by_test (y.version == w)
  where
    by_test : (b : Bool) → (if b then y.places.items else []) ≡ []
    by_test true = none
    by_test false = refl
under-push (x ∷ xs) y none w = ap (λ (l : List (Option ℕ)). if x.version == w then x.places.items else l) (under-push xs y none w)

pub first-push : (v : ℕ) (xs : List VersionPlaces) (y : VersionPlaces) → y.version ≡ v → first_of v xs ≡ length xs → first_of v (xs ++ y ∷ []) ≡ length xs
first-push v [] y is h = let test : (y.version == v) ≡ true = grind (arith, nat_tests) in ap (λ (b : Bool). if b then 0 else suc 0) test
first-push v (x ∷ xs) y is h = by_test (first-push v xs y is) (x.version == v) h
  where
    by_test : (first_of v xs ≡ length xs → first_of v (xs ++ y ∷ []) ≡ length xs) → (b : Bool) → (if b then 0 else suc (first_of v xs)) ≡ suc (length xs)
        → (if b then 0 else suc (first_of v (xs ++ y ∷ []))) ≡ suc (length xs)
    by_test rest true g = absurd (omega (arith, g))
    by_test rest false g = ap suc (rest (omega (arith, g)))

-- ---- the places of a version change

again : (p : Bool) (X Y U : List (Option ℕ)) → (if p then Y else U) ≡ (if p then Y else (if p then X else U))
again true X Y U = refl
again false X Y U = refl

turned : (p q : Bool) (X Y U : List (Option ℕ)) → (p ≡ true → q ≡ true → ⊥) → (if p then X else (if q then Y else U)) ≡ (if q then Y else (if p then X else U))
turned true true X Y U apart = absurd (apart refl refl)
turned true false X Y U apart = refl
turned false true X Y U apart = refl
turned false false X Y U apart = refl

not-both : (a v w : ℕ) → (a == v) ≡ false → (a == w) ≡ true → (v == w) ≡ true → ⊥
not-both a v w other p q = grind (arith, nat_tests)

pub under-set : (v : ℕ) (xs : List VersionPlaces) (y : VersionPlaces) → y.version ≡ v → first_of v xs < length xs → (w : ℕ)
    → under w (set xs (first_of v xs) y) ≡ (if v == w then y.places.items else under w xs)
under-set v [] y is h w = absurd (omega (arith, h))
under-set v (x ∷ xs) y is h w = by_test (λ g. under-set v xs y is g w) (x.version == v) refl h
  where
    by_test : (first_of v xs < length xs → under w (set xs (first_of v xs) y) ≡ (if v == w then y.places.items else under w xs)) → (b : Bool) → (x.version == v) ≡ b
        → (if b then 0 else suc (first_of v xs)) < suc (length xs)
        → under w (set (x ∷ xs) (if b then 0 else suc (first_of v xs)) y) ≡ (if v == w then y.places.items else under w (x ∷ xs))
    by_test rest true t g =
        let own : x.version ≡ v = grind (arith, nat_tests) in
        ap (λ (u : ℕ). if u == w then y.places.items else under w xs) is ∙ again (v == w) x.places.items y.places.items (under w xs)
        ∙ ap (λ (u : ℕ). if v == w then y.places.items else (if u == w then x.places.items else under w xs)) (sym own)
    by_test rest false t g =
        ap (λ (l : List (Option ℕ)). if x.version == w then x.places.items else l) (rest (omega (arith, g)))
        ∙ turned (x.version == w) (v == w) x.places.items y.places.items (under w xs) (not-both x.version v w t)

module _ (v : ℕ) (xs : List VersionPlaces) (y : VersionPlaces) (is : y.version ≡ v) (there : first_of v xs < length xs) where
  -- one place more is kept
  pub one-kept : (count place : ℕ) → ((i : ℕ) → get_or y.places.items i None ≡ (if count == i then Some place else get_or (under v xs) i None)) → (s : Stamp)
      → get_or (under s.version (set xs (first_of v xs) y)) s.count None ≡ (if v == s.version then (if count == s.count then Some place else get_or (under s.version xs) s.count None) else get_or (under s.version xs) s.count None)
  one-kept count place changes s = ap (λ (l : List (Option ℕ)). get_or l s.count None) (under-set v xs y is there s.version) ∙ by_test (v == s.version) refl
    where
      by_test : (b : Bool) → (v == s.version) ≡ b → get_or (if b then y.places.items else under s.version xs) s.count None
          ≡ (if b then (if count == s.count then Some place else get_or (under s.version xs) s.count None) else get_or (under s.version xs) s.count None)
      by_test true t =
          let own : v ≡ s.version = grind (arith, nat_tests) in
          changes s.count ∙ ap (λ (u : ℕ). if count == s.count then Some place else get_or (under u xs) s.count None) own
      by_test false t = refl

  -- none is
  pub none-kept : y.places.items ≡ under v xs → (s : Stamp) → get_or (under s.version (set xs (first_of v xs) y)) s.count None ≡ get_or (under s.version xs) s.count None
  none-kept same s = ap (λ (l : List (Option ℕ)). get_or l s.count None) (under-set v xs y is there s.version) ∙ by_test (v == s.version) refl
    where
      by_test : (b : Bool) → (v == s.version) ≡ b → get_or (if b then y.places.items else under s.version xs) s.count None ≡ get_or (under s.version xs) s.count None
      by_test true t =
          let own : v ≡ s.version = grind (arith, nat_tests) in
          ap (λ (l : List (Option ℕ)). get_or l s.count None) (same ∙ ap (λ (u : ℕ). under u xs) own)
      by_test false t = refl
