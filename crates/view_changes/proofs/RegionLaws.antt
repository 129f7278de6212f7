-- What a region more leaves of the others.
use Rattle.std.proofs.Common.{◌≡◌, ℕ, ◌^◌, ◌-◌, ◌+◌, ◌%◌, ◌≤◌, ◌||◌, Bool, true, false, cond, not, List, [], ◌∷◌, filter, nat_le, refl, sym, ap, subst, ◌∙◌, arith}
use mathlib.Core.Bool.{true≢false}
use Rattle.std.specs.List.{list_any}
use Rattle.std.proofs.lemmas.Bool.Decides.{nat_tests}
use Rattle.std.proofs.Math.Pow.{mod-mod-pow}
use Rattle.bucket_ids.specs.Buckets.{Low, IsBucket, has_key, covers}
use Rattle.view_changes.specs.Views.{in_regions, meets}
use Rattle.view_changes.specs.Kept.{AreParted}

-- ---- tests

pub left : (a b : Bool) → (a || b) ≡ false → a ≡ false
left true b h = h
left false b h = refl

pub right : (a b : Bool) → (a || b) ≡ false → b ≡ false
right true b h = absurd (true≢false h)
right false b h = h

pub neither : (a b : Bool) → a ≡ false → b ≡ false → (a || b) ≡ false
neither a b h k = rw (h, k) refl

pub either : (a b : Bool) → (P : Type 0) → (a ≡ true → P) → (b ≡ true → P) → (a || b) ≡ true → P
either true b P f g h = f refl
either false b P f g h = g h

-- ---- buckets

shorter : (n j k : ℕ) → k ≤ j → n % 2 ^ j % 2 ^ k ≡ n % 2 ^ k
shorter n j k le = let e : (j - k) + k ≡ j = omega arith in subst (λ (w : ℕ). n % 2 ^ w % 2 ^ k ≡ n % 2 ^ k) e (mod-mod-pow n (j - k) k)

-- of two buckets with a key in common the one of fewer bits covers the other
wider : (a b : Low) (key : ℕ) → has_key a key ≡ true → has_key b key ≡ true → a.bits ≤ b.bits → covers a b ≡ true
wider a b key h k le =
    let over : key % 2 ^ a.bits ≡ a.low = grind (arith, nat_tests) in
    let inner : key % 2 ^ b.bits ≡ b.low = grind (arith, nat_tests) in
    let twice : (key % 2 ^ b.bits) % 2 ^ a.bits ≡ key % 2 ^ a.bits = shorter key b.bits a.bits le in
    let low : b.low % 2 ^ a.bits ≡ a.low = ap (λ x. x % 2 ^ a.bits) (sym inner) ∙ (twice ∙ over) in
    grind (arith, nat_tests)

pub key-meets : (a b : Low) (key : ℕ) → has_key a key ≡ true → has_key b key ≡ true → meets a b ≡ true
key-meets a b key h k = by_test (nat_le a.bits b.bits) refl
  where
    or-first : (x y : Bool) → x ≡ true → (x || y) ≡ true
    or-first x y e = rw e refl

    or-second : (x y : Bool) → y ≡ true → (x || y) ≡ true
    or-second true y e = refl
    or-second false y e = e

    by_test : (t : Bool) → nat_le a.bits b.bits ≡ t → meets a b ≡ true
    by_test true e = or-first (covers a b) (covers b a) (wider a b key h k (grind (arith, nat_tests)))
    by_test false e = or-second (covers a b) (covers b a) (wider b a key k h (grind (arith, nat_tests)))

-- what a bucket covers has no key that it hasn't
pub covered-key : (a b : Low) (key : ℕ) → covers a b ≡ true → has_key b key ≡ true → has_key a key ≡ true
covered-key a b key h k =
    let le : a.bits ≤ b.bits = grind (arith, nat_tests) in
    let low : b.low % 2 ^ a.bits ≡ a.low = grind (arith, nat_tests) in
    let inner : key % 2 ^ b.bits ≡ b.low = grind (arith, nat_tests) in
    let twice : (key % 2 ^ b.bits) % 2 ^ a.bits ≡ key % 2 ^ a.bits = shorter key b.bits a.bits le in
    let over : key % 2 ^ a.bits ≡ a.low = sym twice ∙ (ap (λ x. x % 2 ^ a.bits) inner ∙ low) in
    grind (arith, nat_tests)

-- ---- the regions that are not inside a bucket

abbrev pub outer : Low → List Low → List Low
outer b rs = filter (λ r. not (covers b r)) rs

pub outer-key : (b : Low) (key : ℕ) (rs : List Low) → in_regions rs key ≡ false → in_regions (outer b rs) key ≡ false
outer-key b key [] h = refl
outer-key b key (r ∷ rs) h = by_test (covers b r) (outer-key b key rs (right (has_key r key) (in_regions rs key) h))
  where
    by_test : (t : Bool) → in_regions (outer b rs) key ≡ false → in_regions (cond (not t) (r ∷ outer b rs) (outer b rs)) key ≡ false
    by_test true ih = ih
    by_test false ih = neither (has_key r key) (in_regions (outer b rs) key) (left (has_key r key) (in_regions rs key) h) ih

-- a key of some region lies in the bucket or in one of those
pub region-stays : (b : Low) (key : ℕ) (rs : List Low) → in_regions rs key ≡ true → in_regions (b ∷ outer b rs) key ≡ true
region-stays b key [] h = absurd (true≢false (sym h))
region-stays b key (r ∷ rs) h = by_test (covers b r) refl h (region-stays b key rs)
  where
    more : (x y : Bool) → (has_key b key || y) ≡ true → (has_key b key || (x || y)) ≡ true
    more x y e = at_key (has_key b key) e
      where
        last : (x : Bool) → y ≡ true → (x || y) ≡ true
        last true e = refl
        last false e = e

        at_key : (k : Bool) → (k || y) ≡ true → (k || (x || y)) ≡ true
        at_key true e = refl
        at_key false e = last x e

    by_test : (t : Bool) → covers b r ≡ t → (has_key r key || in_regions rs key) ≡ true → (in_regions rs key ≡ true → in_regions (b ∷ outer b rs) key ≡ true)
        → in_regions (b ∷ cond (not t) (r ∷ outer b rs) (outer b rs)) key ≡ true
    by_test true is h ih = either (has_key r key) (in_regions rs key) _ (λ k. rw (covered-key b r key is k) refl) ih h
    by_test false is h ih = either (has_key r key) (in_regions rs key) _ (λ k. own (has_key b key) (has_key r key) (in_regions (outer b rs) key) k) (λ k. more (has_key r key) (in_regions (outer b rs) key) (ih k)) h
      where
        own : (x y z : Bool) → y ≡ true → (x || (y || z)) ≡ true
        own true y z e = refl
        own false true z e = refl
        own false false z e = absurd (true≢false (sym e))

-- a key of the new ones lies in the bucket or in one of the old
pub region-was : (b : Low) (key : ℕ) (rs : List Low) → has_key b key ≡ false → in_regions rs key ≡ false → in_regions (b ∷ outer b rs) key ≡ false
region-was b key rs h k = neither (has_key b key) (in_regions (outer b rs) key) h (outer-key b key rs k)

pub parted-outer : (b : Low) (rs : List Low) → AreParted rs → AreParted (outer b rs)
parted-outer b [] p = tt
parted-outer b (r ∷ rs) p = by_test (covers b r) (parted-outer b rs p.2)
  where
    by_test : (t : Bool) → AreParted (outer b rs) → AreParted (cond (not t) (r ∷ outer b rs) (outer b rs))
    by_test true ih = ih
    by_test false ih = (p.0, λ key h. outer-key b key rs (p.1 key h), ih)

-- no region covers the bucket, so those that aren't inside it have none of its keys
apart : (b : Low) (key : ℕ) → has_key b key ≡ true → (rs : List Low) → list_any (λ r. covers r b) rs ≡ false → in_regions (outer b rs) key ≡ false
apart b key h [] n = refl
apart b key h (r ∷ rs) n = by_test (covers b r) refl (apart b key h rs (right (covers r b) (list_any (λ r. covers r b) rs) n))
  where
    none : (t : Bool) → has_key r key ≡ t → covers b r ≡ false → t ≡ false
    none true e is = absurd (true≢false (sym (key-meets b r key h e) ∙ neither (covers b r) (covers r b) is (left (covers r b) (list_any (λ r. covers r b) rs) n)))
    none false e is = refl

    by_test : (t : Bool) → covers b r ≡ t → in_regions (outer b rs) key ≡ false → in_regions (cond (not t) (r ∷ outer b rs) (outer b rs)) key ≡ false
    by_test true is ih = ih
    by_test false is ih = neither (has_key r key) (in_regions (outer b rs) key) (none (has_key r key) refl is) ih

pub parted-more : (b : Low) (rs : List Low) → IsBucket b → list_any (λ r. covers r b) rs ≡ false → AreParted rs → AreParted (b ∷ outer b rs)
parted-more b rs is n p = (is, λ key h. apart b key h rs n, parted-outer b rs p)
