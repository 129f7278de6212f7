-- The rows of an opening are what the journal asks of them: the coarsest partition that no answer divides.
use Rattle.std.proofs.Common.{◌≡◌, ◌≢◌, ◌⊎◌, ℕ, zero, suc, ◌+◌, ◌-◌, ◌%◌, ◌^◌, ◌<◌, ◌≤◌, Bool, true, false, not, ◌&&◌, ◌||◌, ◌==◌, List, [], ◌∷◌, cond, Option, Some, None, is_some, inl, inr, refl, sym, ap, ◌∙◌, subst, arith, nat_le, nat_lt}
use Rattle.std.specs.List.{AllByRecursion, count_by, filter, list_any, Contains}
use Rattle.std.proofs.lemmas.Bool.{cases_lt}
use Rattle.std.proofs.lemmas.Bool.Decides.{nat_tests}
use Rattle.bucket_ids.specs.Buckets.{Low, IsBucket, has_key, covers, parent_of}
use Rattle.bucket_db.specs.Answers.{is_inside, divides, IsCoarsest}
use Rattle.bucket_db.specs.Rows.{AreBuckets, AreRows, IsPartition}
use Rattle.proof_basics.proofs.Lists.{one_if, count_cons, count_none, count_parts}
use Rattle.proof_basics.proofs.Tests.{or_none, none_left, none_right}
use Rattle.bucket_db.proofs.Inside.{covers_keys, covers_trans, covers_key, covers_from, covers_low, covers_own, key_in, has_low, low_below, low_of_low, parent_valid, same_or_inside}
use Rattle.lane_journals.specs.Buckets as ids
use Rattle.lane_journals.specs.Buckets.{contains}
use Rattle.lane_journals.specs.Readers.{Journal, row_in}
use Rattle.lane_journals.specs.Legal.{Parted}
use Rattle.lane_journals.specs.Places as places
use Rattle.lane_journals.specs.Places.{Setting, WasNamed}

-- ---- lists

abbrev pub In : {X : Type 0} → X → List X → Type 0
In x [] = ⊥
In x (y ∷ ys) = (y ≡ x) ⊎ In x ys

pub in-of : {X : Type 0} (x : X) (xs : List X) → Contains xs x → In x xs
in-of x [] c = absurd (let less = c.1 in omega (arith, less))
in-of x (y ∷ ys) (zero, less, is) = inl is
in-of x (y ∷ ys) (suc k, less, is) = inr (in-of x ys (k, omega arith, is))

pub contains-in : {X : Type 0} (x : X) (xs : List X) → In x xs → Contains xs x
contains-in x [] h = absurd h
contains-in x (y ∷ ys) (inl e) = (0, omega arith, e)
contains-in x (y ∷ ys) (inr h) = let c = contains-in x ys h in (suc c.0, (let less = c.1 in omega (arith, less)), c.2)

all-in : {X : Type 0} (P : X → Type 0) (x : X) (xs : List X) → AllByRecursion P xs → In x xs → P x
all-in P x [] a h = absurd h
all-in P x (y ∷ ys) a (inl e) = subst P e a.0
all-in P x (y ∷ ys) a (inr h) = all-in P x ys a.1 h

any-in : {X : Type 0} (q : X → Bool) (xs : List X) → list_any q xs ≡ true → (x : X) × In x xs × (q x ≡ true)
any-in q [] h = cc
any-in {X} q (y ∷ ys) h = by_case (q y) refl h (any-in q ys)
  where
    by_case : (t : Bool) → q y ≡ t → (t || list_any q ys) ≡ true → (list_any q ys ≡ true → (x : X) × In x ys × (q x ≡ true)) → (x : X) × In x (y ∷ ys) × (q x ≡ true)
    by_case true e h ih = (y, inl refl, e)
    by_case false e h ih = let z = ih h in (z.0, inr z.1, z.2)

none-in : {X : Type 0} (q : X → Bool) (x : X) (xs : List X) → list_any q xs ≡ false → In x xs → q x ≡ false
none-in q x [] h i = absurd i
none-in q x (y ∷ ys) h (inl e) = ap q (sym e) ∙ none_left (q y) (list_any q ys) h
none-in q x (y ∷ ys) h (inr i) = none-in q x ys (none_right (q y) (list_any q ys) h) i

count-in : {X : Type 0} (p : X → Bool) (x : X) (xs : List X) → In x xs → p x ≡ true → 1 ≤ count_by p xs
count-in p x [] i h = absurd i
count-in p x (y ∷ ys) (inl e) h = let one : one_if (p y) ≡ 1 = ap (λ z. one_if (p z)) e ∙ ap one_if h in omega (arith, count_cons p y ys, one)
count-in p x (y ∷ ys) (inr i) h = omega (arith, count_cons p y ys, count-in p x ys i h)

-- what counts once is one
count-two : {X : Type 0} (p : X → Bool) (x y : X) (xs : List X) → count_by p xs ≤ 1 → In x xs → In y xs → p x ≡ true → p y ≡ true → x ≡ y
count-two p x y [] few i k h g = absurd i
count-two p x y (z ∷ zs) few (inl e) (inl f) h g = sym e ∙ f
count-two p x y (z ∷ zs) few (inl e) (inr k) h g = let one : one_if (p z) ≡ 1 = ap (λ w. one_if (p w)) e ∙ ap one_if h in absurd (omega (arith, count_cons p z zs, one, count-in p y zs k g, few))
count-two p x y (z ∷ zs) few (inr i) (inl f) h g = let one : one_if (p z) ≡ 1 = ap (λ w. one_if (p w)) f ∙ ap one_if g in absurd (omega (arith, count_cons p z zs, one, count-in p x zs i h, few))
count-two p x y (z ∷ zs) few (inr i) (inr k) h g = count-two p x y zs (omega (arith, count_cons p z zs, few)) i k h g

found-in : {X : Type 0} (p : X → Bool) (xs : List X) → 1 ≤ count_by p xs → (x : X) × In x xs × (p x ≡ true)
found-in p [] h = absurd (omega (arith, h))
found-in {X} p (y ∷ ys) h = by_case (p y) refl (let c = count_cons p y ys in omega (arith, c, h)) (found-in p ys)
  where
    by_case : (t : Bool) → p y ≡ t → 1 ≤ one_if (p y) + count_by p ys → (1 ≤ count_by p ys → (x : X) × In x ys × (p x ≡ true)) → (x : X) × In x (y ∷ ys) × (p x ≡ true)
    by_case true e h ih = (y, inl refl, e)
    by_case false e h ih = let g : one_if (p y) ≡ 0 = ap one_if e in let z = ih (omega (arith, g, h)) in (z.0, inr z.1, z.2)

all-filter : {X : Type 0} (P : X → Type 0) (f : X → Bool) (xs : List X) → AllByRecursion P xs → AllByRecursion P (filter f xs)
all-filter P f [] a = tt
all-filter {X} P f (x ∷ xs) a = by_case (f x) (all-filter P f xs a.1)
  where
    by_case : (t : Bool) → AllByRecursion P (filter f xs) → AllByRecursion P (cond t (x ∷ filter f xs) (filter f xs))
    by_case true ih = (a.0, ih)
    by_case false ih = ih

none-filter : {X : Type 0} (q f : X → Bool) (xs : List X) → list_any q xs ≡ false → list_any q (filter f xs) ≡ false
none-filter q f [] h = refl
none-filter {X} q f (x ∷ xs) h = by_case (f x) (none-filter q f xs (none_right (q x) (list_any q xs) h))
  where
    by_case : (t : Bool) → list_any q (filter f xs) ≡ false → list_any q (cond t (x ∷ filter f xs) (filter f xs)) ≡ false
    by_case true ih = or_none (q x) (list_any q (filter f xs)) (none_left (q x) (list_any q xs) h) ih
    by_case false ih = ih

-- ---- keys of any size

small : (key : ℕ) → key % 2 ^ 58 < 2 ^ 58
small key = omega arith

same_key : (b : Low) (key : ℕ) → b.bits ≤ 58 → has_key b (key % 2 ^ 58) ≡ has_key b key
same_key b key le = ap (λ (i : ℕ). i == b.low) (low_of_low key b.bits 58 le)

contains-is : (b : Low) (key : ℕ) → contains b key ≡ has_key b key
unfolding contains
contains-is b key = refl

covers-is : (a b : Low) → ids.covers a b ≡ covers a b
unfolding ids.covers contains
covers-is a b = by_test (nat_le a.bits b.bits) (has_key a b.low)
  where
    by_test : (x y : Bool) → cond x y false ≡ (x && y)
    by_test true y = refl
    by_test false y = refl

-- ---- rows

row_in-some : (key : ℕ) (bs : List Low) (c : Low) → row_in key bs ≡ Some c → In c bs × (contains c key ≡ true)
row_in-some key [] c h = cc
row_in-some key (b ∷ bs) c h = by_case (contains b key) refl h (row_in-some key bs c)
  where
    by_case : (t : Bool) → contains b key ≡ t → cond t (Some b) (row_in key bs) ≡ Some c → (row_in key bs ≡ Some c → In c bs × (contains c key ≡ true)) → In c (b ∷ bs) × (contains c key ≡ true)
    by_case true e h ih = let same : b ≡ c = cc in (inl same, subst (λ x. contains x key ≡ true) same e)
    by_case false e h ih = let z = ih h in (inr z.0, z.1)

row_in-none : (key : ℕ) (bs : List Low) (c : Low) → row_in key bs ≡ None → In c bs → contains c key ≡ false
row_in-none key [] c h i = absurd i
row_in-none key (b ∷ bs) c h i = by_case (contains b key) refl h i (row_in-none key bs c)
  where
    by_case : (t : Bool) → contains b key ≡ t → cond t (Some b) (row_in key bs) ≡ None → In c (b ∷ bs) → (row_in key bs ≡ None → In c bs → contains c key ≡ false) → contains c key ≡ false
    by_case true e h i ih = cc
    by_case false e h (inl same) ih = subst (λ x. contains x key ≡ false) same e
    by_case false e h (inr k) ih = ih h k

either-row : (o : Option Low) → (o ≡ None) ⊎ ((c : Low) × (o ≡ Some c))
either-row None = inl refl
either-row (Some c) = inr (c, refl)

either-test : (t : Bool) → (t ≡ true) ⊎ (t ≡ false)
either-test true = inl refl
either-test false = inr refl

holds-small : (b : Low) (key : ℕ) → IsBucket b → contains b key ≡ true → has_key b (key % 2 ^ 58) ≡ true
holds-small b key ok h = same_key b key ok.most ∙ sym (contains-is b key) ∙ h

pub parted : (bs : List Low) → AreBuckets bs → ((key : ℕ) → key < 2 ^ 58 → count_by (λ b. has_key b key) bs ≤ 1) → Parted bs
parted [] valid few = tt
parted (b ∷ bs) valid few = (valid.0.fits, apart, parted bs valid.1 (λ key lt. omega (arith, count_cons (λ x. has_key x key) b bs, few key lt)))
  where
    apart : (key : ℕ) → contains b key ≡ true → row_in key bs ≡ None
    apart key h = elim (either-row (row_in key bs)) [
      | inl none ↦ none
      | inr some ↦ (let z = row_in-some key bs some.0 some.1 in
          let one : one_if (has_key b (key % 2 ^ 58)) ≡ 1 = ap one_if (holds-small b key valid.0 h) in
          let more = count-in (λ x. has_key x (key % 2 ^ 58)) some.0 bs z.0 (holds-small some.0 key (all-in IsBucket some.0 bs valid.1 z.0) z.1) in
          absurd (omega (arith, count_cons (λ x. has_key x (key % 2 ^ 58)) b bs, one, more, few (key % 2 ^ 58) (small key))))
    ]

module _ (lane : Low) (ans bs : List Low) (rows : AreRows lane bs) (most : IsCoarsest lane ans bs) where
  few : (key : ℕ) → key < 2 ^ 58 → count_by (λ b. has_key b key) bs ≤ 1
  few key lt = subst (λ (n : ℕ). n ≤ 1) (sym (rows.partition key lt)) (at_most (has_key lane key))
    where
      at_most : (t : Bool) → cond t 1 0 ≤ 1
      at_most true = omega arith
      at_most false = omega arith

  pub rows-parted : Parted bs
  rows-parted = parted bs rows.valid few

  one : (b c : Low) (key : ℕ) → key < 2 ^ 58 → In b bs → In c bs → has_key b key ≡ true → has_key c key ≡ true → b ≡ c
  one b c key lt i k h g = count-two (λ x. has_key x key) b c bs (few key lt) i k h g

  valid-at : (b : Low) → In b bs → IsBucket b
  valid-at b i = all-in IsBucket b bs rows.valid i

  low_small : (b : Low) → IsBucket b → b.low < 2 ^ 58
  low_small b ok = low_below b ok

  -- a key of a row is one of the lane, and a key of the lane is in a row
  lane-has : (b : Low) (key : ℕ) → key < 2 ^ 58 → In b bs → has_key b key ≡ true → has_key lane key ≡ true
  lane-has b key lt i h = by_test (has_key lane key) refl (count-in (λ x. has_key x key) b bs i h) (rows.partition key lt)
    where
      by_test : (t : Bool) → has_key lane key ≡ t → 1 ≤ count_by (λ x. has_key x key) bs → count_by (λ x. has_key x key) bs ≡ cond t 1 0 → has_key lane key ≡ true
      by_test true e c p = e
      by_test false e c p = absurd (omega (arith, c, p))

  row-has : (key : ℕ) → key < 2 ^ 58 → has_key lane key ≡ true → (b : Low) × In b bs × (has_key b key ≡ true)
  row-has key lt h = found-in (λ x. has_key x key) bs (let p : count_by (λ x. has_key x key) bs ≡ 1 = rows.partition key lt ∙ ap (λ (t : Bool). cond t 1 0) h in omega (arith, p))

  in-lane : (b : Low) → In b bs → covers lane b ≡ true
  in-lane b i = covers_keys lane b rows.bucket (valid-at b i) (λ key lt h. lane-has b key lt i h)

  parts : (key : ℕ) → is_some (row_in key bs) ≡ contains lane key
  parts key = elim (either-row (row_in key bs)) [
    | inl none ↦ ap is_some none ∙ sym (elim (either-test (contains lane key)) [
      | inl yes_lane ↦ (let z = row-has (key % 2 ^ 58) (small key) (holds-small lane key rows.bucket yes_lane) in
          let off = row_in-none key bs z.0 none z.1 in
          let on : contains z.0 key ≡ true = contains-is z.0 key ∙ sym (same_key z.0 key (valid-at z.0 z.1).most) ∙ z.2 in
          absurd (let w : true ≡ false = sym on ∙ off in cc))
      | inr not_lane ↦ not_lane
    ])
    | inr some ↦ (let z = row_in-some key bs some.0 some.1 in
        ap is_some some.1 ∙ sym (contains-is lane key ∙ sym (same_key lane key rows.bucket.most) ∙ lane-has some.0 (key % 2 ^ 58) (small key) z.0 (holds-small some.0 key (valid-at some.0 z.0) z.1)))
  ]

  -- ---- no answer lies strictly inside a row

  both : (x y : Bool) → (x && y) ≡ true → (x ≡ true) × (y ≡ true)
  both true y h = (refl, h)
  both false y h = cc

  pair : (x y : Bool) → x ≡ true → y ≡ true → (x && y) ≡ true
  pair true y h g = g
  pair false y h g = cc

  le_true : (m n : ℕ) → m ≤ n → nat_le m n ≡ true
  le_true m n h = grind (arith, nat_tests)

  le_of : (m n : ℕ) → nat_le m n ≡ true → m ≤ n
  le_of m n h = grind (arith, nat_tests)

  lt_true : (m n : ℕ) → m < n → nat_lt m n ≡ true
  lt_true m n h = grind (arith, nat_tests)

  lt_of : (m n : ℕ) → nat_lt m n ≡ true → m < n
  lt_of m n h = grind (arith, nat_tests)

  covers-bits : (a b : Low) → covers a b ≡ true → a.bits ≤ b.bits
  covers-bits a b h = le_of a.bits b.bits (both (nat_le a.bits b.bits) (has_key a b.low) h).0

  undivided : (b c : Low) → In b bs → In c ans → IsBucket c → covers b c ≡ true → c ≡ b
  undivided b c i k ok h = elim (same_or_inside b c ok h) [
    | inl same ↦ sym same
    | inr less ↦ (let off : is_inside b c ≡ false = none-in (is_inside b) c ans (none-in (divides ans) b bs most.undivided i) k in
        absurd (let w : true ≡ false = sym (pair (nat_lt b.bits c.bits) (covers b c) (lt_true b.bits c.bits less) h) ∙ off in cc))
  ]

  -- ---- nor may a row be greater

  module _ (b : Low) (i : In b bs) (less : lane.bits < b.bits) where
    abbrev up : Low
    up = parent_of b

    ok : IsBucket b
    ok = valid-at b i

    deep : 1 < b.bits
    deep = let z = (rows.bucket).some in omega (arith, z, less)

    -- a row that covers the parent would be the row itself
    none-over : (r : Low) → In r bs → covers r up ≡ true → ⊥
    none-over r k h =
        let c = covers_trans r up b h (covers_own b) in
        let same = one r b b.low (low_small b ok) k i (covers_key r b b.low c (has_low b ok)) (has_low b ok) in
        let bits = covers-bits r up h in
        let e = ap (λ (x : Low). x.bits) same in
        omega (arith, bits, e, deep)

    under-lane : covers lane up ≡ true
    under-lane = covers_from lane up (omega (arith, less))
        (low_of_low b.low lane.bits (b.bits - 1) (omega (arith, less)) ∙ covers_low lane b (in-lane b i))

    -- a row with a key of the parent lies in it
    under-up : (r : Low) (key : ℕ) → key < 2 ^ 58 → In r bs → has_key r key ≡ true → has_key up key ≡ true → covers up r ≡ true
    under-up r key lt k h g = elim (cases_lt r.bits up.bits) [
      | inl lower ↦ absurd (none-over r k (covers_from r up (omega (arith, lower)) (ap (λ (x : ℕ). x % 2 ^ r.bits) (sym (key_in up key g)) ∙ low_of_low key r.bits up.bits (omega (arith, lower)) ∙ key_in r key h)))
      | inr more ↦ covers_from up r more (ap (λ (x : ℕ). x % 2 ^ up.bits) (sym (key_in r key h)) ∙ low_of_low key up.bits r.bits more ∙ key_in up key g)
    ]

    abbrev rest : List Low
    rest = filter (λ r. not (covers up r)) bs

    partition : IsPartition lane (up ∷ rest)
    partition key lt = by_test (has_key up key) refl
      where
        counted : count_by (λ r. has_key r key) bs ≡ count_by (λ r. covers up r && has_key r key) bs + count_by (λ r. has_key r key) rest
        counted = count_parts (λ r. has_key r key) (λ r. covers up r) bs

        by_test : (t : Bool) → has_key up key ≡ t → count_by (λ r. has_key r key) (up ∷ rest) ≡ cond (has_key lane key) 1 0
        by_test true e =
            let on : has_key lane key ≡ true = covers_key lane up key under-lane e in
            let all : count_by (λ r. has_key r key) bs ≡ 1 = rows.partition key lt ∙ ap (λ (t : Bool). cond t 1 0) on in
            let r = row-has key lt on in
            let inside = count-in (λ r. covers up r && has_key r key) r.0 bs r.1 (pair (covers up r.0) (has_key r.0 key) (under-up r.0 key lt r.1 r.2 e) r.2) in
            let head : one_if (has_key up key) ≡ 1 = ap one_if e in
            let goal_is : one_if (has_key lane key) ≡ 1 = ap one_if on in
            omega (arith, count_cons (λ r. has_key r key) up rest, counted, all, inside, head, goal_is)
        by_test false e =
            let none : count_by (λ r. covers up r && has_key r key) bs ≡ 0 = count_none (λ r. covers up r && has_key r key) bs
            (λ r h. let z = both (covers up r) (has_key r key) h in let w : true ≡ false = sym (covers_key up r key z.0 z.1) ∙ e in cc) in
            let head : one_if (has_key up key) ≡ 0 = ap one_if e in
            let all = rows.partition key lt in
            omega (arith, count_cons (λ r. has_key r key) up rest, counted, none, head, all)

    divided : divides ans up ≡ true
    divided = elim (either-test (divides ans up)) [
      | inl is ↦ is
      | inr off ↦ (let finer = most.coarsest (up ∷ rest)
          (parent_valid b ok deep, all-filter IsBucket (λ r. not (covers up r)) bs rows.valid)
          partition
          (or_none (divides ans up) (list_any (divides ans) rest) off (none-filter (divides ans) (λ r. not (covers up r)) bs most.undivided)) in
          let r = any-in (λ r. covers r up) bs finer.0 in
          absurd (none-over r.0 r.1 r.2))
    ]

    reason : (c : Low) × In c ans × (covers up c ≡ true) × (c ≢ up)
    reason = let c = any-in (is_inside up) ans divided in
        let z = both (nat_lt up.bits c.0.bits) (covers up c.0) c.2 in
        let more = lt_of up.bits c.0.bits z.0 in
        (c.0, c.1, z.1, λ e. let g = ap (λ (x : Low). x.bits) e in omega (arith, more, g))

  pub placed : (S : Setting) (H : Journal) (v : ℕ) → S.lane ≡ lane → ((b : Low) → Contains ans b → IsBucket b) → ((b : Low) → Contains ans b → WasNamed v b H) → ((b : Low) → WasNamed v b H → Contains ans b)
      → places.IsPartition S H v bs
  placed S H v same valid named all = record {
    valid = λ b c. valid-at b (in-of b bs c);
    parts = λ key. parts key ∙ ap (λ (x : Low). contains x key) (sym same);
    whole = λ b c k w h. let z = all c w in undivided b c (in-of b bs k) (in-of c ans z) (valid c z) (sym (covers-is b c) ∙ h);
    coarsest = λ b k. subst (λ (x : Low). (b ≡ x) ⊎ ((c : Low) × WasNamed v c H × (ids.covers (parent_of b) c ≡ true) × (c ≢ parent_of b))) (sym same) (coarse b (in-of b bs k));
  }
    where
      coarse : (b : Low) → In b bs → (b ≡ lane) ⊎ ((c : Low) × WasNamed v c H × (ids.covers (parent_of b) c ≡ true) × (c ≢ parent_of b))
      coarse b i = elim (same_or_inside lane b (valid-at b i) (in-lane b i)) [
        | inl is ↦ inl (sym is)
        | inr less ↦ (let r = reason b i less in inr (r.0, named r.0 (contains-in r.0 ans r.1), covers-is (parent_of b) r.0 ∙ r.2, r.3))
      ]
