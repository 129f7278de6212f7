-- Buckets that have each key between them measure as much as all keys.
use Rattle.std.proofs.Common.{◌≡◌, inl, inr, ℕ, zero, suc, ◌+◌, ◌-◌, ◌%◌, ◌<◌, ◌≤◌, ◌^◌, ◌||◌, ◌++◌, Bool, true, false, cond, List, [], ◌∷◌, refl, sym, ap, ◌∙◌, subst, arith, mod-eq_of_lt}
use mathlib.Core.Bool.{true≢false}
use Rattle.std.specs.List.{AllByRecursion}
use Rattle.std.proofs.lemmas.Bool.Decides.{nat_tests}
use Rattle.std.proofs.lemmas.Nat.{pow_below}
use Rattle.std.proofs.lemmas.Bool.{cases_lt}
use Rattle.std.proofs.lemmas.Grind.{pow_more}
use Rattle.bucket_ids.specs.Buckets.{Low, IsBucket, IsIn, has_key, covers, measure, first_child, second_child}
use Rattle.bucket_ids.proofs.KeySets.{children_parts, children_apart, covers_includes, includes_covers, measures_add}
use Rattle.bucket_ids.proofs.LowBits.{low_of_low}
use Rattle.view_changes.specs.Views.{NodeView}
use Rattle.view_changes.specs.Kept.{AreNodes}
use Rattle.view_changes.specs.Serving.{serves, node_regions}
use Rattle.view_changes.proofs.CoverLaws.{times-parted, times-append}
use Rattle.coverage.specs.Covering.{times, measure_of}
use Rattle.search_laws.specs.Searches.{Seen, serving_regions, covered, AreLanes, SomeNode, SomeSeen}
use Rattle.search_laws.proofs.Counting.{buckets-lanes, covered-bounded}

-- ---- the buckets that pass a test

-- what they measure
abbrev weight : (Low → Bool) → List Low → ℕ
weight test [] = 0
weight test (b ∷ bs) = cond (test b) (measure b) 0 + weight test bs

weight-all : (bs : List Low) → weight (λ b. true) bs ≡ measure_of bs
weight-all [] = refl
weight-all (b ∷ bs) = ap (λ n. measure b + n) (weight-all bs)

-- those that pass one of two tests, which none passes both of, pass a third
weight-two : (s t u : Low → Bool) → ((b : Low) → IsBucket b → s b ≡ true → u b ≡ true) → ((b : Low) → IsBucket b → t b ≡ true → u b ≡ true) → ((b : Low) → IsBucket b → s b ≡ true → t b ≡ true → ⊥)
    → (bs : List Low) → AllByRecursion IsBucket bs → weight s bs + weight t bs ≤ weight u bs
weight-two s t u first second apart [] h = omega arith
weight-two s t u first second apart (b ∷ bs) h = by_tests (s b) (t b) (u b) (first b h.0) (second b h.0) (apart b h.0) (weight-two s t u first second apart bs h.1)
  where
    by_tests : (x y z : Bool) → (x ≡ true → z ≡ true) → (y ≡ true → z ≡ true) → (x ≡ true → y ≡ true → ⊥) → weight s bs + weight t bs ≤ weight u bs
        → (cond x (measure b) 0 + weight s bs) + (cond y (measure b) 0 + weight t bs) ≤ cond z (measure b) 0 + weight u bs
    by_tests true true z f g off ih = absurd (off refl refl)
    by_tests true false z f g off ih = let is : ◌≡◌ {A = ℕ} (cond z (measure b) 0) (measure b) = ap (λ c. cond c (measure b) 0) (f refl) in omega (arith, ih, is)
    by_tests false true z f g off ih = let is : ◌≡◌ {A = ℕ} (cond z (measure b) 0) (measure b) = ap (λ c. cond c (measure b) 0) (g refl) in omega (arith, ih, is)
    by_tests false false z f g off ih = omega (arith, ih)

-- ---- those inside a bucket

least-in : (b : Low) → IsBucket b → IsIn b b.low
least-in b is = (elim (cases_lt b.bits 58) [ inl less ↦ omega (arith, is.fits, pow_below b.bits 58 less) | inr more ↦ (let e : b.bits ≡ 58 = omega (arith, is.most, more) in subst (λ k. b.low < 2 ^ k) e is.fits) ], mod-eq_of_lt is.fits)

children : (b : Low) → IsBucket b → b.bits < 58 → IsBucket (first_child b) × IsBucket (second_child b)
children b is less = (
  record { some = omega arith; most = omega (arith, less); fits = omega (arith, is.fits, pow_below b.bits (b.bits + 1) (omega arith)) },
  record { some = omega arith; most = omega (arith, less); fits = top },
)
  where
    top : b.low + 2 ^ b.bits < 2 ^ (b.bits + 1)
    top = let twice = pow_more 2 b.bits in omega (arith, is.fits, twice)

-- one that is inside a child is inside the bucket, and not inside the other child
inside-first : (root : Low) → IsBucket root → root.bits < 58 → (b : Low) → IsBucket b → covers (first_child root) b ≡ true → covers root b ≡ true
inside-first root is less b own h = includes_covers root b is own (λ key k. (children_parts root is key).1 (inl (covers_includes (first_child root) b (children root is less).0 h key k)))

inside-second : (root : Low) → IsBucket root → root.bits < 58 → (b : Low) → IsBucket b → covers (second_child root) b ≡ true → covers root b ≡ true
inside-second root is less b own h = includes_covers root b is own (λ key k. (children_parts root is key).1 (inr (covers_includes (second_child root) b (children root is less).1 h key k)))

inside-one : (root : Low) → IsBucket root → root.bits < 58 → (b : Low) → IsBucket b → covers (first_child root) b ≡ true → covers (second_child root) b ≡ true → ⊥
inside-one root is less b own f g =
    let low = least-in b own in
    children_apart root b.low (covers_includes (first_child root) b (children root is less).0 f b.low low) (covers_includes (second_child root) b (children root is less).1 g b.low low)

-- ---- a bucket whose keys they have

-- a bucket of no more bits with a common key is over it
over-common : (b root : Low) (key : ℕ) → b.bits ≤ root.bits → IsIn b key → IsIn root key → covers b root ≡ true
over-common b root key few has own =
    let low : root.low % 2 ^ b.bits ≡ b.low = ap (λ k. k % 2 ^ b.bits) (sym own.1) ∙ (low_of_low key b.bits root.bits few ∙ has.1) in
    grind (arith, nat_tests)

-- one of them is over it
abbrev any-over : Low → List Low → Bool
any-over root [] = false
any-over root (b ∷ bs) = covers b root || any-over root bs

-- none of them is over it and has fewer bits
abbrev NoneAbove : Low → List Low → Type 0
NoneAbove root [] = Unit {0}
NoneAbove root (b ∷ bs) = (covers b root ≡ true → b.bits < root.bits → ⊥) × NoneAbove root bs

-- so where one is over it, that is the bucket
one-over : (root : Low) → IsBucket root → (bs : List Low) → AllByRecursion IsBucket bs → NoneAbove root bs → any-over root bs ≡ true → measure root ≤ weight (covers root) bs
one-over root is [] h none any = absurd (true≢false (sym any))
one-over root is (b ∷ bs) h none any = by_test (covers b root) refl any (one-over root is bs h.1 none.1)
  where
    by_test : (t : Bool) → covers b root ≡ t → (t || any-over root bs) ≡ true → (any-over root bs ≡ true → measure root ≤ weight (covers root) bs) → measure root ≤ cond (covers root b) (measure b) 0 + weight (covers root) bs
    by_test true over a ih =
        let few : b.bits ≤ root.bits = grind (arith, nat_tests) in
        let same : b.bits ≡ root.bits = elim (cases_lt b.bits root.bits) [ inl less ↦ absurd (none.0 over less) | inr more ↦ omega (arith, few, more) ] in
        let inside : covers root b ≡ true = over-common root b root.low (omega (arith, same)) (least-in root is) (covers_includes b root h.0 over root.low (least-in root is)) in
        let here : cond (covers root b) (measure b) 0 ≡ measure root = ap (λ t. cond t (measure b) 0) inside ∙ ap (λ k. 2 ^ (58 - k)) same in
        omega (arith, here)
    by_test false over a ih = let rest = ih a in omega (arith, rest)

-- else none is over a half of it and has fewer bits
none-above : (root child : Low) → IsBucket child → child.bits ≡ root.bits + 1 → ((key : ℕ) → IsIn child key → IsIn root key) → (bs : List Low) → AllByRecursion IsBucket bs → any-over root bs ≡ false → NoneAbove child bs
none-above root child is bits inside [] h none = tt
none-above root child is bits inside (b ∷ bs) h none = by_test (covers b root) refl none (none-above root child is bits inside bs h.1)
  where
    by_test : (t : Bool) → covers b root ≡ t → (t || any-over root bs) ≡ false → (any-over root bs ≡ false → NoneAbove child bs) → (covers b child ≡ true → b.bits < child.bits → ⊥) × NoneAbove child bs
    by_test true over n rest = absurd (true≢false n)
    by_test false over n rest = (
      (λ above fewer.
          let low = least-in child is in
          true≢false (sym (over-common b root child.low (omega (arith, fewer, bits)) (covers_includes b child h.0 above child.low low) (inside child.low low)) ∙ over)),
      rest n,
    )

-- one that has a key of a bucket of one key is over it
over-key : (root : Low) (key : ℕ) → root.bits ≡ 58 → IsIn root key → (bs : List Low) → AllByRecursion IsBucket bs → 1 ≤ times bs key → any-over root bs ≡ true
over-key root key all own [] h some = absurd (omega (arith, some))
over-key root key all own (b ∷ bs) h some = by_test (has_key b key) refl some (over-key root key all own bs h.1)
  where
    one : (t u : Bool) → t ≡ true → (t || u) ≡ true
    one true u e = refl
    one false u e = absurd (true≢false (sym e))

    other : (t u : Bool) → u ≡ true → (t || u) ≡ true
    other true u e = refl
    other false u e = e

    by_test : (t : Bool) → has_key b key ≡ t → 1 ≤ cond t 1 0 + times bs key → (1 ≤ times bs key → any-over root bs ≡ true) → (covers b root || any-over root bs) ≡ true
    by_test true has s ih = one (covers b root) (any-over root bs) (over-common b root key (omega (arith, (h.0).most, all)) (own.0, grind (arith, nat_tests)) own)
    by_test false has s ih = other (covers b root) (any-over root bs) (ih (omega (arith, s)))

-- those inside it measure as much as it
filled : (k : ℕ) (root : Low) → IsBucket root → root.bits + k ≡ 58 → (bs : List Low) → AllByRecursion IsBucket bs → NoneAbove root bs → ((key : ℕ) → IsIn root key → 1 ≤ times bs key) → measure root ≤ weight (covers root) bs
filled zero root is bits bs h none each =
    let low = least-in root is in one-over root is bs h none (over-key root root.low (omega (arith, bits)) low bs h (each root.low low))
filled (suc j) root is bits bs h none each = by_test (any-over root bs) refl
    (λ child two same inside over. filled j child two (omega (arith, bits, same)) bs h (none-above root child two same inside bs h over) (λ key own. each key (inside key own)))
  where
    less : root.bits < 58
    less = omega (arith, bits)

    by_test : (t : Bool) → any-over root bs ≡ t → ((child : Low) → IsBucket child → child.bits ≡ root.bits + 1 → ((key : ℕ) → IsIn child key → IsIn root key) → any-over root bs ≡ false → measure child ≤ weight (covers child) bs) → measure root ≤ weight (covers root) bs
    by_test true over ih = one-over root is bs h none over
    by_test false over ih =
        let two = children root is less in
        let first = ih (first_child root) two.0 refl (λ key own. (children_parts root is key).1 (inl own)) over in
        let second = ih (second_child root) two.1 refl (λ key own. (children_parts root is key).1 (inr own)) over in
        let both = weight-two (covers (first_child root)) (covers (second_child root)) (covers root) (inside-first root is less) (inside-second root is less) (inside-one root is less) bs h in
        omega (arith, measures_add root is less, first, second, both)

-- ---- all keys

-- the keys with this low bit
abbrev half : ℕ → Low
half low = record { bits = 1; low = low }

half-is : (low : ℕ) → low < 2 → IsBucket (half low)
half-is low l = record { some = omega arith; most = omega arith; fits = l }

none-halves : (low : ℕ) (bs : List Low) → AllByRecursion IsBucket bs → NoneAbove (half low) bs
none-halves low [] h = tt
none-halves low (b ∷ bs) h = ((λ over fewer. omega (arith, fewer, (h.0).some)), none-halves low bs h.1)

apart-halves : (b : Low) → IsBucket b → covers (half 0) b ≡ true → covers (half 1) b ≡ true → ⊥
apart-halves b own f g =
    let low = least-in b own in
    let first = (covers_includes (half 0) b (half-is 0 (omega arith)) f b.low low).1 in
    let second = (covers_includes (half 1) b (half-is 1 (omega arith)) g b.low low).1 in
    omega (arith, first, second)

all-filled : (bs : List Low) → AllByRecursion IsBucket bs → ((key : ℕ) → key < 2 ^ 58 → 1 ≤ times bs key) → 2 ^ 58 ≤ measure_of bs
all-filled bs h each =
    let first = filled 57 (half 0) (half-is 0 (omega arith)) refl bs h (none-halves 0 bs h) (λ key own. each key own.0) in
    let second = filled 57 (half 1) (half-is 1 (omega arith)) refl bs h (none-halves 1 bs h) (λ key own. each key own.0) in
    let both = weight-two (covers (half 0)) (covers (half 1)) (λ b. true) (λ b own e. refl) (λ b own e. refl) apart-halves bs h in
    omega (arith, first, second, both, weight-all bs)

-- ---- lanes

there-node : (w key : ℕ) (P : NodeView → Type 0) (ns : List NodeView) → AreNodes ns → SomeNode w key P ns → 1 ≤ times (node_regions w ns) key
there-node w key P [] h s = absurd s
there-node w key P (n ∷ ns) h (inl s) =
    let over : times n.regions key ≡ 1 = times-parted n.regions (h.0).regions key ∙ ap (λ t. cond t 1 0) s.1 in
    let both : times (node_regions w (n ∷ ns)) key ≡ times n.regions key + times (node_regions w ns) key = ap (λ t. times (cond t n.regions [] ++ node_regions w ns) key) s.0 ∙ times-append n.regions (node_regions w ns) key in
    omega (arith, over, both)
there-node w key P (n ∷ ns) h (inr s) = let rest = there-node w key P ns h.1 s in omega (arith, rest, times-append (cond (serves w n) n.regions []) (node_regions w ns) key)

there-lane : (w key : ℕ) (P : NodeView → Type 0) (ls : List Seen) → AreLanes ls → SomeSeen w key P ls → 1 ≤ times (serving_regions w ls) key
there-lane w key P [] h s = absurd s
there-lane w key P (l ∷ ls) h (inl s) = let here = there-node w key P (l.view).nodes (h.0).nodes s in omega (arith, here, times-append (node_regions w (l.view).nodes) (serving_regions w ls) key)
there-lane w key P (l ∷ ls) h (inr s) = let rest = there-lane w key P ls h.3 s in omega (arith, rest, times-append (node_regions w (l.view).nodes) (serving_regions w ls) key)

-- where each key lies in a region of a node that serves, these cover as much as all keys
pub full-where-found : (w : ℕ) (P : NodeView → Type 0) (ls : List Seen) → AreLanes ls → ((key : ℕ) → key < 2 ^ 58 → SomeSeen w key P ls) → covered w ls ≡ 2 ^ 58
full-where-found w P ls h each =
    let most : covered w ls ≤ 2 ^ 58 = covered-bounded w ls h in
    let least : 2 ^ 58 ≤ covered w ls = all-filled (serving_regions w ls) (buckets-lanes w ls h) (λ key low. there-lane w key P ls h (each key low)) in
    omega (arith, most, least)
