-- Lists of rows by number.
use Rattle.std.proofs.Common.{◌≡◌, ℕ, zero, suc, ◌+◌, ◌*◌, ◌%◌, ◌^◌, ◌<◌, ◌≤◌, Bool, true, false, nat_lt, List, [], ◌∷◌, map, length, get_or, cond, Option, Some, None, inl, inr, refl, sym, ap, ap₂, ◌∙◌, subst, arith}
use Rattle.std.specs.List.{AllWithin, count_by, filter, insert, remove}
use Rattle.std.specs.List.Sorted.{IsNonDecreasingBy}
use Rattle.std.specs.Prelude.{slice_get, slice_set, IfSome}
use Rattle.std.proofs.lemmas.Bool.{cases_lt, ltb-true, ltb-false}
use Rattle.std.proofs.lemmas.List.{get_or-map, length-map}
use Rattle.std.proofs.lemmas.List.Edits.{get_or-remove_below, get_or-remove_above, length-remove}
use Rattle.std.proofs.lemmas.List.Kept.{AllPairs-from_increasing}
use Rattle.std.proofs.lemmas.Option.{slice_get_within, get_or_from_slice_get, slice_get-get_or}
use Rattle.bucket_ids.specs.Buckets.{Low, IsBucket, has_key}
use Rattle.bucket_ids.specs.Printed.{number_of}
use Rattle.bucket_db.specs.Answers.{new_row}
use Rattle.bucket_db.specs.Changes.{placed, with_row, at_row}
use Rattle.bucket_db.specs.Order.{RisesFrom}
use Rattle.bucket_db.specs.Rows.{AreBuckets, AreRising, AreRows, IsPartition, buckets_of}
use Rattle.bucket_db.specs.declared.row.Row.{Row}
use Rattle.bucket_db.proofs.Counts.{count_map, count_once, count_found}
use Rattle.bucket_db.proofs.Inside.{key_in, has_low, low_below, number_bits, number_same}

-- ---- rising numbers by place

rises_least : (least : ℕ) (bs : List Low) (j : ℕ) (d : Low) → RisesFrom least bs → j < length bs → least ≤ number_of (get_or bs j d)
rises_least least [] j d h lt = absurd (omega arith)
rises_least least (b ∷ bs) zero d h lt = h.0
rises_least least (b ∷ bs) (suc j) d h lt = omega (arith, h.0, rises_least (number_of b) bs j d h.1 (omega arith))

pub rises_by_place : (least : ℕ) (bs : List Low) → RisesFrom least bs → (i j : ℕ) (d : Low) → i ≤ j → j < length bs → number_of (get_or bs i d) ≤ number_of (get_or bs j d)
rises_by_place least [] h i j d le lt = absurd (omega arith)
rises_by_place least (b ∷ bs) h zero zero d le lt = omega arith
rises_by_place least (b ∷ bs) h zero (suc j) d le lt = rises_least (number_of b) bs j d h.1 (omega arith)
rises_by_place least (b ∷ bs) h (suc i) zero d le lt = absurd (omega arith)
rises_by_place least (b ∷ bs) h (suc i) (suc j) d le lt = rises_by_place (number_of b) bs h.1 i j d (omega arith) (omega arith)

get_bucket : (rows : List Row) (i : ℕ) (d : Row) → get_or (buckets_of rows) i d.bucket ≡ (get_or rows i d).bucket
get_bucket [] i d = refl
get_bucket (r ∷ rows) zero d = refl
get_bucket (r ∷ rows) (suc i) d = get_bucket rows i d

length_buckets : (rows : List Row) → length (buckets_of rows) ≡ length rows
length_buckets [] = refl
length_buckets (r ∷ rows) = ap suc (length_buckets rows)

pub rows_rise : (rows : List Row) → RisesFrom 0 (buckets_of rows) → IsNonDecreasingBy (λ r. number_of r.bucket) rows
rows_rise rows h i j d le lt =
    subst (λ a. a ≤ number_of (get_or rows j d).bucket) (ap number_of (get_bucket rows i d))
    (subst (λ b. number_of (get_or (buckets_of rows) i d.bucket) ≤ number_of b) (get_bucket rows j d)
    (rises_by_place 0 (buckets_of rows) h i j d.bucket le (omega (arith, length_buckets rows))))

-- numbers that rise by place rise
pub rises_from : (least : ℕ) (bs : List Low) → ((j : ℕ) (d : Low) → j < length bs → least ≤ number_of (get_or bs j d)) → IsNonDecreasingBy number_of bs → RisesFrom least bs
rises_from least [] from rise = tt
rises_from least (b ∷ bs) from rise = (
  from 0 b (omega arith),
  rises_from (number_of b) bs (λ j d lt. rise 0 (suc j) d (omega arith) (omega arith)) (λ i j d le lt. rise (suc i) (suc j) d (omega arith) (omega arith)),
)

pub valid_at : (bs : List Low) (i : ℕ) (b : Low) → AreBuckets bs → slice_get bs i ≡ Some b → IsBucket b
valid_at [] i b h e = let f : None ≡ Some b = e in cc
valid_at (x ∷ xs) zero b h e = subst IsBucket (same e) h.0
  where
    same : Some x ≡ Some b → x ≡ b
    same f = cc
valid_at (x ∷ xs) (suc i) b h e = valid_at xs i b h.1 e

number_at : (bs : List Low) (i e : ℕ) (d : Low) → i < length bs → get_or (map number_of bs) i e ≡ number_of (get_or bs i d)
number_at bs i e d lt = get_or-map number_of bs i d e lt

-- numbers that rise don't fall
pub rises_of_rising : (bs : List Low) → AreRising bs → RisesFrom 0 bs
rises_of_rising bs h = rises_from 0 bs (λ j d lt. omega arith) (λ i j d le lt. elim (cases_lt i j) [
  | inl less ↦
      let up : get_or (map number_of bs) i 0 < get_or (map number_of bs) j 0 =
      AllPairs-from_increasing (map number_of bs) h i j 0 less (omega (arith, length-map bs number_of)) in
      omega (arith, up, number_at bs i 0 d (omega arith), number_at bs j 0 d lt)
  | inr more ↦
      let same : i ≡ j = omega arith in
      subst (λ k. number_of (get_or bs i d) ≤ number_of (get_or bs k d)) same (omega arith)
])

-- a bucket that stood at two places would have each of its keys twice
pub rising_of_rises : (bs : List Low) → AreBuckets bs → ((key : ℕ) → key < 2 ^ 58 → count_by (λ b. has_key b key) bs ≤ 1) → RisesFrom 0 bs → AreRising bs
rising_of_rises bs valid once rises k inside =
    let none : Low = record { bits = 0; low = 0 } in
    let within : k + 1 < length bs = omega (arith, inside, length-map bs number_of) in
    let b = get_or bs k none in
    let c = get_or bs (k + 1) none in
    let b_at : slice_get bs k ≡ Some b = slice_get-get_or bs k none (omega arith) in
    let c_at : slice_get bs (k + 1) ≡ Some c = slice_get-get_or bs (k + 1) none within in
    let up : number_of b ≤ number_of c = rises_by_place 0 bs rises k (k + 1) none (omega arith) within in
    let b_is : get_or (map number_of bs) k 0 ≡ number_of b = number_at bs k 0 none (omega arith) in
    let c_is : get_or (map number_of bs) (k + 1) 0 ≡ number_of c = number_at bs (k + 1) 0 none within in
    elim (cases_lt (number_of b) (number_of c)) [
      | inl less ↦ omega (arith, less, b_is, c_is)
      | inr more ↦
          let okb = valid_at bs k b valid b_at in
          let same = number_same b c okb (valid_at bs (k + 1) c valid c_at) (omega (arith, up, more)) in
          let has = has_low b okb in
          let again : has_key c b.low ≡ true = subst (λ (x : Low). has_key x b.low ≡ true) same has in
          absurd (omega (arith, count_once (λ (x : Low). has_key x b.low) bs k (k + 1) b c (once b.low (low_below b okb)) b_at c_at has again))
    ]

one_or_none : (b : Bool) → cond b 1 0 ≤ 1
one_or_none true = omega arith
one_or_none false = omega arith

pub are_rows : (lane : Low) (bs : List Low) → IsBucket lane → AreBuckets bs → IsPartition lane bs → RisesFrom 0 bs → AreRows lane bs
are_rows lane bs ok valid partition rises = record {
  bucket = ok;
  valid = valid;
  partition = partition;
  rising = rising_of_rises bs valid (λ key small. omega (arith, partition key small, one_or_none (has_key lane key))) rises;
}

-- ---- a row that comes, and one that goes

rises_lower : (low least : ℕ) (bs : List Low) → low ≤ least → RisesFrom least bs → RisesFrom low bs
rises_lower low least [] le h = tt
rises_lower low least (b ∷ bs) le h = (omega (arith, h.0), h.1)

pub rises_placed : (least : ℕ) (x : Low) (bs : List Low) → least ≤ number_of x → RisesFrom least bs → RisesFrom least (placed number_of x bs)
rises_placed least x [] le h = (le, tt)
rises_placed least x (b ∷ bs) le h = go (nat_lt (number_of b) (number_of x)) refl (λ lt. rises_placed (number_of b) x bs lt h.1)
  where
    go : (t : Bool) → t ≡ nat_lt (number_of b) (number_of x) → (number_of b ≤ number_of x → RisesFrom (number_of b) (placed number_of x bs))
        → RisesFrom least (cond t (b ∷ placed number_of x bs) (x ∷ b ∷ bs))
    go true e more = (h.0, more (let lt = ltb-true (number_of b) (number_of x) (sym e) in omega (arith, lt)))
    go false e more = (le, (ltb-false (number_of b) (number_of x) (sym e), h.1))

pub rises_removed : (least : ℕ) (bs : List Low) (i : ℕ) → RisesFrom least bs → RisesFrom least (remove bs i)
rises_removed least [] zero h = tt
rises_removed least [] (suc i) h = tt
rises_removed least (b ∷ bs) zero h = rises_lower least (number_of b) bs h.0 h.1
rises_removed least (b ∷ bs) (suc i) h = (h.0, rises_removed (number_of b) bs i h.1)

pub rises_filtered : (p : Low → Bool) (least : ℕ) (bs : List Low) → RisesFrom least bs → RisesFrom least (filter p bs)
rises_filtered p least [] h = tt
rises_filtered p least (b ∷ bs) h = go (p b) (rises_filtered p (number_of b) bs h.1)
  where
    go : (t : Bool) → RisesFrom (number_of b) (filter p bs) → RisesFrom least (cond t (b ∷ filter p bs) (filter p bs))
    go true more = (h.0, more)
    go false more = rises_lower least (number_of b) (filter p bs) h.0 more

pub buckets_placed : (r : Row) (rows : List Row) → buckets_of (with_row r rows) ≡ placed number_of r.bucket (buckets_of rows)
buckets_placed r [] = refl
buckets_placed r (x ∷ xs) = go (nat_lt (number_of x.bucket) (number_of r.bucket)) (buckets_placed r xs)
  where
    go : (t : Bool) → buckets_of (with_row r xs) ≡ placed number_of r.bucket (buckets_of xs)
        → buckets_of (cond t (x ∷ with_row r xs) (r ∷ x ∷ xs)) ≡ cond t (x.bucket ∷ placed number_of r.bucket (buckets_of xs)) (r.bucket ∷ x.bucket ∷ buckets_of xs)
    go true e = ap (λ bs. x.bucket ∷ bs) e
    go false e = refl

pub buckets_removed : (rows : List Row) (i : ℕ) → buckets_of (remove rows i) ≡ remove (buckets_of rows) i
buckets_removed [] zero = refl
buckets_removed [] (suc i) = refl
buckets_removed (x ∷ xs) zero = refl
buckets_removed (x ∷ xs) (suc i) = ap (λ bs. x.bucket ∷ bs) (buckets_removed xs i)

-- where the numbers before are smaller and those from there on aren't, a row comes there
pub insert_placed : (r : Row) (rows : List Row) (at : ℕ) → at ≤ length rows → AllWithin (λ x. number_of x.bucket < number_of r.bucket) rows 0 at
    → AllWithin (λ x. number_of r.bucket ≤ number_of x.bucket) rows at (length rows) → insert rows at r ≡ with_row r rows
insert_placed r [] zero le before from = refl
insert_placed r [] (suc at) le before from = absurd (omega arith)
insert_placed r (x ∷ xs) zero le before from = rw (ltb_none (number_of x.bucket) (number_of r.bucket) (from 0 x (omega arith) (omega arith))) refl
  where
    ltb_none : (m n : ℕ) → n ≤ m → nat_lt m n ≡ false
    ltb_none m n le = grind (arith)
insert_placed r (x ∷ xs) (suc at) le before from = rw (lt_test (number_of x.bucket) (number_of r.bucket) (before 0 x (omega arith) (omega arith)))
    (ap (λ rows. x ∷ rows) (insert_placed r xs at (omega arith)
    (λ k d low high. before (suc k) d (omega arith) (omega arith))
    (λ k d low high. from (suc k) d (omega arith) (omega arith))))
  where
    lt_test : (m n : ℕ) → m < n → nat_lt m n ≡ true
    lt_test m n lt = grind (arith)

-- ---- looking a key up

pub bucket_at : (rows : List Row) (i : ℕ) (r : Row) → slice_get rows i ≡ Some r → slice_get (buckets_of rows) i ≡ Some r.bucket
bucket_at [] i r e = let f : None ≡ Some r = e in cc
bucket_at (x ∷ xs) zero r e = let f : Some x ≡ Some r = e in ap (λ (y : Row). Some y.bucket) (same f)
  where
    same : Some x ≡ Some r → x ≡ r
    same f = cc
bucket_at (x ∷ xs) (suc i) r e = bucket_at xs i r e

-- at most one row has the key
pub one_row : (rows : List Row) (key i j : ℕ) (r s : Row) → count_by (λ b. has_key b key) (buckets_of rows) ≤ 1
    → slice_get rows i ≡ Some r → slice_get rows j ≡ Some s → has_key r.bucket key ≡ true → has_key s.bucket key ≡ true → i ≡ j
one_row rows key i j r s one at to h k =
    count_once (λ (x : Row). has_key x.bucket key) rows i j r s (omega (arith, count_map (λ b. has_key b key) (λ (x : Row). x.bucket) rows, one)) at to h k

-- some row is at each place of the list
pub some_at : (rows : List Row) (at : ℕ) → at < length rows → (r : Row) × (slice_get rows at ≡ Some r)
some_at [] at lt = absurd (omega arith)
some_at (r ∷ rows) zero lt = (r, refl)
some_at (r ∷ rows) (suc at) lt = some_at rows at (omega arith)

pub some_with : (rows : List Row) (at : ℕ) (P : Row → Type 0) → at < length rows → IfSome (slice_get rows at) P → (r : Row) × ((slice_get rows at ≡ Some r) × P r)
some_with rows at P lt h =
    let found = some_at rows at lt in
    (found.0, (found.1, subst (λ (o : Option Row). IfSome o P) found.1 h))

-- the row of a key that counts once
pub exists_row : (rows : List Row) (key : ℕ) → count_by (λ b. has_key b key) (buckets_of rows) ≡ 1
    → (k : ℕ) × ((row : Row) × (slice_get rows k ≡ Some row) × (has_key row.bucket key ≡ true))
exists_row rows key one =
    count_found (λ (x : Row). has_key x.bucket key) rows (omega (arith, count_map (λ b. has_key b key) (λ (x : Row). x.bucket) rows, one))

-- rows further back have no fewer bits
pub row_bits : (rows : List Row) (i k : ℕ) (r s : Row) → AreBuckets (buckets_of rows) → RisesFrom 0 (buckets_of rows)
    → slice_get rows i ≡ Some r → slice_get rows k ≡ Some s → i ≤ k → r.bucket.bits ≤ s.bucket.bits
row_bits rows i k r s valid rising at to le =
    let inside = slice_get_within rows k s to in
    let rise = rows_rise rows rising i k r le inside in
    let up : number_of r.bucket ≤ number_of s.bucket =
    subst (λ (x : Row). number_of x.bucket ≤ number_of s.bucket) (get_or_from_slice_get rows i r r at)
    (subst (λ (x : Row). number_of (get_or rows i r).bucket ≤ number_of x.bucket) (get_or_from_slice_get rows k s r to) rise) in
    number_bits r.bucket s.bucket (valid_at (buckets_of rows) i r.bucket valid (bucket_at rows i r at)) (valid_at (buckets_of rows) k s.bucket valid (bucket_at rows k s to)) up

-- once the number of this many bits is looked up in vain, the row of the key has more
pub level_done : (rows : List Row) (key bits number at : ℕ) → number ≡ bits * 2 ^ 58 + key % 2 ^ bits → AreBuckets (buckets_of rows) → RisesFrom 0 (buckets_of rows)
    → AllWithin (λ r. number_of r.bucket < number) rows 0 at
    → AllWithin (λ r. number ≤ number_of r.bucket) rows at (length rows)
    → ((r : Row) → slice_get rows at ≡ Some r → has_key r.bucket key ≡ false)
    → (k : ℕ) (row : Row) → slice_get rows k ≡ Some row → has_key row.bucket key ≡ true → bits ≤ row.bucket.bits → bits + 1 ≤ row.bucket.bits
level_done rows key bits number at is_number valid rising before from none k row found has least = elim (cases_lt bits row.bucket.bits) [
  | inl less ↦ omega arith
  | inr more ↦
      let same : row.bucket.bits ≡ bits = omega arith in
      let exact : number_of row.bucket ≡ number =
      ap₂ (λ b l. b * 2 ^ 58 + l) same (sym (key_in row.bucket key has) ∙ ap (λ b. key % 2 ^ b) same) ∙ sym is_number in
      let inside = slice_get_within rows k row found in
      let is_row : (d : Row) → get_or rows k d ≡ row = λ d. get_or_from_slice_get rows k row d found in
      elim (cases_lt k at) [
        | inl early ↦
            let low : number_of row.bucket < number = subst (λ (r : Row). number_of r.bucket < number) (is_row row) (before k row (omega arith) early) in
            absurd (omega (arith, low, exact))
        | inr late ↦
            let within : at < length rows = omega (arith, inside) in
            let here = get_or rows at row in
            let at_here : slice_get rows at ≡ Some here = slice_get-get_or rows at row within in
            let up : number_of here.bucket ≤ number_of row.bucket = subst (λ (r : Row). number_of here.bucket ≤ number_of r.bucket) (is_row row) (rows_rise rows rising at k row late inside) in
            let down : number ≤ number_of here.bucket = from at row (omega arith) within in
            let equal : number_of here.bucket ≡ number_of row.bucket = omega (arith, up, down, exact) in
            let one = number_same here.bucket row.bucket (valid_at (buckets_of rows) at here.bucket valid (bucket_at rows at here at_here))
            (valid_at (buckets_of rows) k row.bucket valid (bucket_at rows k row found)) equal in
            let clash : false ≡ true = sym (none here at_here) ∙ ap (λ b. has_key b key) one ∙ has in cc
      ]
]

-- ---- insertions, removals and changes of rows

pub insert_found : (r : Row) (rows slice : List Row) (number at : ℕ) → slice ≡ rows → number ≡ number_of r.bucket → at ≤ length slice
    → AllWithin (λ x. number_of x.bucket < number) slice 0 at → AllWithin (λ x. number ≤ number_of x.bucket) slice at (length slice) → insert rows at r ≡ with_row r rows
insert_found r rows slice number at e f le before from = insert_placed r rows at
    (subst (λ (xs : List Row). at ≤ length xs) e le)
    (subst (λ (xs : List Row). AllWithin (λ x. number_of x.bucket < number_of r.bucket) xs 0 at) e
    (subst (λ n. AllWithin (λ (x : Row). number_of x.bucket < n) slice 0 at) f before))
    (subst (λ (xs : List Row). AllWithin (λ x. number_of r.bucket ≤ number_of x.bucket) xs at (length xs)) e
    (subst (λ n. AllWithin (λ (x : Row). n ≤ number_of x.bucket) slice at (length slice)) f from))

-- the row of one place goes, and another comes where its number belongs
pub exchange_found : (r : Row) (rows slice : List Row) (number gone place to : ℕ) → slice ≡ rows → number ≡ number_of r.bucket → gone < length rows → place ≤ length slice
    → AllWithin (λ x. number_of x.bucket < number) slice 0 place → AllWithin (λ x. number ≤ number_of x.bucket) slice place (length slice)
    → (gone < place → to + 1 ≡ place) → (place ≤ gone → to ≡ place) → insert (remove rows gone) to r ≡ with_row r (remove rows gone)
exchange_found r rows slice number gone place to e f lt le before from behind ahead =
    let rest = remove rows gone in
    let fewer : length rest + 1 ≡ length rows = length-remove rows gone lt in
    let most : place ≤ length rows = subst (λ (xs : List Row). place ≤ length xs) e le in
    let below : (k : ℕ) (d : Row) → k < place → number_of (get_or rows k d).bucket < number_of r.bucket =
    λ k d low. subst (λ n. number_of (get_or rows k d).bucket < n) f (subst (λ (xs : List Row). number_of (get_or xs k d).bucket < number) e (before k d (omega arith) low)) in
    let above : (k : ℕ) (d : Row) → place ≤ k → k < length rows → number_of r.bucket ≤ number_of (get_or rows k d).bucket =
    λ k d low high. subst (λ n. n ≤ number_of (get_or rows k d).bucket) f
    (subst (λ (xs : List Row). number ≤ number_of (get_or xs k d).bucket) e (from k d low (subst (λ (xs : List Row). k < length xs) (sym e) high))) in
    insert_placed r rest to (to_within fewer most)
    (λ k d low high. elim (cases_lt k gone) [
      | inl early ↦ subst (λ (x : Row). number_of x.bucket < number_of r.bucket) (sym (get_or-remove_below rows gone d k early lt)) (below k d (early_below k high))
      | inr late ↦ subst (λ (x : Row). number_of x.bucket < number_of r.bucket) (sym (get_or-remove_above rows gone d k late lt)) (below (k + 1) d (late_below k high late))
    ])
    (λ k d low high. elim (cases_lt k gone) [
      | inl early ↦ subst (λ (x : Row). number_of r.bucket ≤ number_of x.bucket) (sym (get_or-remove_below rows gone d k early lt)) (above k d (early_above k low early) (omega arith))
      | inr late ↦ subst (λ (x : Row). number_of r.bucket ≤ number_of x.bucket) (sym (get_or-remove_above rows gone d k late lt)) (above (k + 1) d (late_above k low) (omega (arith, fewer, high)))
    ])
  where
    to_within : length (remove rows gone) + 1 ≡ length rows → place ≤ length rows → to ≤ length (remove rows gone)
    to_within fewer most = elim (cases_lt gone place) [ inl less ↦ omega (arith, behind less, fewer, most) | inr more ↦ omega (arith, ahead more, fewer, most, lt) ]

    early_below : (k : ℕ) → k < to → k < place
    early_below k high = elim (cases_lt gone place) [ inl less ↦ omega (arith, behind less) | inr more ↦ omega (arith, ahead more) ]

    late_below : (k : ℕ) → k < to → gone ≤ k → k + 1 < place
    late_below k high late = elim (cases_lt gone place) [ inl less ↦ omega (arith, behind less) | inr more ↦ absurd (omega (arith, ahead more)) ]

    early_above : (k : ℕ) → to ≤ k → k < gone → place ≤ k
    early_above k low early = elim (cases_lt gone place) [ inl less ↦ absurd (omega (arith, behind less)) | inr more ↦ omega (arith, ahead more) ]

    late_above : (k : ℕ) → to ≤ k → place ≤ k + 1
    late_above k low = elim (cases_lt gone place) [ inl less ↦ omega (arith, behind less) | inr more ↦ omega (arith, ahead more) ]

pub row_rises : (r : Row) (rows : List Row) → RisesFrom 0 (buckets_of rows) → RisesFrom 0 (buckets_of (with_row r rows))
row_rises r rows h = subst (λ bs. RisesFrom 0 bs) (sym (buckets_placed r rows)) (rises_placed 0 r.bucket (buckets_of rows) (omega arith) h)

pub removed_rises : (rows : List Row) (at : ℕ) → RisesFrom 0 (buckets_of rows) → RisesFrom 0 (buckets_of (remove rows at))
removed_rises rows at h = subst (λ bs. RisesFrom 0 bs) (sym (buckets_removed rows at)) (rises_removed 0 (buckets_of rows) at h)

pub exchanged_rises : (r : Row) (rows : List Row) (at : ℕ) → RisesFrom 0 (buckets_of rows) → RisesFrom 0 (buckets_of (with_row r (remove rows at)))
exchanged_rises r rows at h = row_rises r (remove rows at) (removed_rises rows at h)

pub buckets_filtered : (p : Low → Bool) (rows : List Row) → buckets_of (filter (λ r. p r.bucket) rows) ≡ filter p (buckets_of rows)
buckets_filtered p [] = refl
buckets_filtered p (r ∷ rows) = go (p r.bucket) (buckets_filtered p rows)
  where
    go : (t : Bool) → buckets_of (filter (λ x. p x.bucket) rows) ≡ filter p (buckets_of rows)
        → buckets_of (cond t (r ∷ filter (λ x. p x.bucket) rows) (filter (λ x. p x.bucket) rows)) ≡ cond t (r.bucket ∷ filter p (buckets_of rows)) (filter p (buckets_of rows))
    go true e = ap (λ bs. r.bucket ∷ bs) e
    go false e = e

-- a row written in its place
pub set_at_row : (change : Row → Row) (rows : List Row) (at : ℕ) (x : Row) → at < length rows → x ≡ get_or rows at x → slice_set rows at (change x) ≡ at_row at change rows
set_at_row change [] at x lt is = absurd (omega arith)
set_at_row change (r ∷ rows) zero x lt is = ap (λ y. change y ∷ rows) is
set_at_row change (r ∷ rows) (suc at) x lt is = ap (λ rs. r ∷ rs) (set_at_row change rows at x (omega arith) is)

pub set_buckets : (rows : List Row) (at : ℕ) (x y : Row) → at < length rows → x ≡ get_or rows at x → y.bucket ≡ x.bucket → buckets_of (slice_set rows at y) ≡ buckets_of rows
set_buckets [] at x y lt is same = absurd (omega arith)
set_buckets (r ∷ rows) zero x y lt is same = ap (λ b. b ∷ buckets_of rows) (same ∙ ap (λ (z : Row). z.bucket) is)
set_buckets (r ∷ rows) (suc at) x y lt is same = ap (λ bs. r.bucket ∷ bs) (set_buckets rows at x y (omega arith) is same)

pub new_buckets : (bs : List Low) → buckets_of (map new_row bs) ≡ bs
new_buckets [] = refl
new_buckets (b ∷ bs) = ap (λ xs. b ∷ xs) (new_buckets bs)

-- what was read at a place is the row there
pub read_is : (rows slice : List Row) (i : ℕ) (x r : Row) → slice ≡ rows → x ≡ get_or slice i x → slice_get rows i ≡ Some r → x ≡ r
read_is rows slice i x r e at found = at ∙ ap (λ (xs : List Row). get_or xs i x) e ∙ get_or_from_slice_get rows i r x found
