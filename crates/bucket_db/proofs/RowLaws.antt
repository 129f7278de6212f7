-- Splits and joins keep the rows a partition in rising number.
use Rattle.std.proofs.Common.{◌≡◌, ℕ, zero, suc, ◌+◌, ◌-◌, ◌%◌, ◌^◌, ◌<◌, ◌≤◌, ◌⊎◌, Bool, true, false, not, ◌&&◌, nat_lt, List, [], ◌∷◌, length, get_or, cond, Option, Some, None, inl, inr, ◌↔◌, refl, sym, ap, ap₂, ◌∙◌, subst, arith}
use Rattle.std.specs.List.{count_by, filter, remove}
use Rattle.std.specs.Prelude.{slice_get, IfSome}
use Rattle.std.proofs.lemmas.Bool.{cases_lt}
use Rattle.std.proofs.lemmas.Option.{slice_get-get_or, slice_get_read}
use Rattle.bucket_ids.specs.Buckets.{Low, IsBucket, has_key, covers, first_child, second_child, parent_of, sibling_of}
use Rattle.bucket_ids.specs.Printed.{number_of}
use Rattle.bucket_db.specs.Changes.{placed, with_row, with_halves, split_at, with_joined, first_half, second_half, CanJoin, IsJoinable, MayJoin}
use Rattle.bucket_db.specs.Rows.{AreBuckets, AreRows, Rows, buckets_of}
use Rattle.bucket_db.specs.declared.row.Row.{Row}
use Rattle.proof_basics.proofs.Lists.{one_if, count_cons, count_at, count_none, count_parts}
use Rattle.bucket_db.proofs.Inside.{low_of_low, low_below, key_in, key_has, has_low, covers_low, covers_key, covers_own, covers_sibling, first_valid, second_valid, halves, parent_valid, sibling_valid, sibling_differs, key_in_either}
use Rattle.bucket_db.specs.Order.{AreHalves}
use Rattle.bucket_db.proofs.Moves.{but_two}
use Rattle.bucket_db.proofs.RowLists.{are_rows, rises_of_rising, rises_placed, rises_removed, rises_filtered, buckets_placed, buckets_removed, buckets_filtered, bucket_at, one_row, valid_at, some_with, read_is}

count_placed : {X : Type 0} (p : X → Bool) (number : X → ℕ) (x : X) (xs : List X) → count_by p (placed number x xs) ≡ one_if (p x) + count_by p xs
count_placed p number x [] = count_cons p x []
count_placed {X} p number x (y ∷ ys) = go (nat_lt (number y) (number x)) (count_placed p number x ys)
  where
    go : (b : Bool) → count_by p (placed number x ys) ≡ one_if (p x) + count_by p ys → count_by p (cond b (y ∷ placed number x ys) (x ∷ y ∷ ys)) ≡ one_if (p x) + count_by p (y ∷ ys)
    go true e = omega (arith, count_cons p y (placed number x ys), count_cons p y ys, e)
    go false e = count_cons p x (y ∷ ys)

count_removed : {X : Type 0} (p : X → Bool) (xs : List X) (i : ℕ) (x : X) → slice_get xs i ≡ Some x → count_by p xs ≡ one_if (p x) + count_by p (remove xs i)
count_removed p [] i x e = let f : None ≡ Some x = e in cc
count_removed p (y ∷ ys) zero x e = count_cons p y ys ∙ ap (λ z. one_if (p z) + count_by p ys) (same e)
  where
    same : Some y ≡ Some x → y ≡ x
    same f = cc
count_removed p (y ∷ ys) (suc i) x e =
    let rest = count_removed p ys i x e in
    let more = count_cons p y (remove ys i) in
    omega (arith, count_cons p y ys, rest, more)

valid_placed : (x : Low) (bs : List Low) → IsBucket x → AreBuckets bs → AreBuckets (placed number_of x bs)
valid_placed x [] ok h = (ok, tt)
valid_placed x (b ∷ bs) ok h = go (nat_lt (number_of b) (number_of x)) (valid_placed x bs ok h.1)
  where
    go : (t : Bool) → AreBuckets (placed number_of x bs) → AreBuckets (cond t (b ∷ placed number_of x bs) (x ∷ b ∷ bs))
    go true more = (h.0, more)
    go false more = (ok, h)

valid_removed : (bs : List Low) (i : ℕ) → AreBuckets bs → AreBuckets (remove bs i)
valid_removed [] zero h = tt
valid_removed [] (suc i) h = tt
valid_removed (b ∷ bs) zero h = h.1
valid_removed (b ∷ bs) (suc i) h = (h.0, valid_removed bs i h.1)

valid_filtered : (p : Low → Bool) (bs : List Low) → AreBuckets bs → AreBuckets (filter p bs)
valid_filtered p [] h = tt
valid_filtered p (b ∷ bs) h = go (p b) (valid_filtered p bs h.1)
  where
    go : (t : Bool) → AreBuckets (filter p bs) → AreBuckets (cond t (b ∷ filter p bs) (filter p bs))
    go true more = (h.0, more)
    go false more = more

-- ---- a split

split_buckets : (lane : Low) (bs : List Low) (at : ℕ) (b : Low) → AreRows lane bs → slice_get bs at ≡ Some b → b.bits < 58
    → AreRows lane (placed number_of (second_child b) (placed number_of (first_child b) (remove bs at)))
split_buckets lane bs at b h found lt =
    let ok = valid_at bs at b h.valid found in
    let rest = remove bs at in
    let first = placed number_of (first_child b) rest in
    are_rows lane (placed number_of (second_child b) first) h.bucket
    (valid_placed (second_child b) first (second_valid b ok lt) (valid_placed (first_child b) rest (first_valid b ok lt) (valid_removed bs at h.valid)))
    (λ key small.
    let p : Low → Bool = λ x. has_key x key in
    let one = count_placed p number_of (second_child b) first in
    let two = count_placed p number_of (first_child b) rest in
    let gone = count_removed p bs at b found in
    let parts = halves b ok key in
    let whole = h.partition key small in
    omega (arith, one, two, gone, parts, whole))
    (rises_placed 0 (second_child b) first (omega arith) (rises_placed 0 (first_child b) rest (omega arith) (rises_removed 0 bs at (rises_of_rising bs h.rising))))

pub split_is : (rows : List Row) (at : ℕ) (row : Row) → slice_get rows at ≡ Some row → split_at at rows ≡ with_row (second_half row) (with_row (first_half row) (remove rows at))
split_is rows at row found = ap (λ (o : Option Row). with_halves o (remove rows at)) found

pub split_keeps : (lane : Low) (rows : List Row) (at : ℕ) → AreRows lane (buckets_of rows) → at < length rows → IfSome (slice_get rows at) (λ row. row.bucket.bits < 58)
    → AreRows lane (buckets_of (split_at at rows))
split_keeps lane rows at h lt fewer =
    let found = some_with rows at (λ row. row.bucket.bits < 58) lt fewer in
    let row = found.0 in
    let first = with_row (first_half row) (remove rows at) in
    let are : buckets_of (split_at at rows) ≡ placed number_of (second_child row.bucket) (placed number_of (first_child row.bucket) (remove (buckets_of rows) at)) =
    ap buckets_of (split_is rows at row found.1.0) ∙ buckets_placed (second_half row) first
    ∙ ap (placed number_of (second_child row.bucket)) (buckets_placed (first_half row) (remove rows at) ∙ ap (placed number_of (first_child row.bucket)) (buckets_removed rows at)) in
    subst (AreRows lane) (sym are) (split_buckets lane (buckets_of rows) at row.bucket h (bucket_at rows at row found.1.0) found.1.1)

-- ---- a join

both : (a b : Bool) → a ≡ true → b ≡ true → (a && b) ≡ true
both true true p q = refl
both true false p q = q
both false b p q = let e : false ≡ true = p in cc

of_both : (a b : Bool) → (a && b) ≡ true → (a ≡ true) × (b ≡ true)
of_both true true p = (refl, refl)
of_both true false p = let e : false ≡ true = p in cc
of_both false b p = let e : false ≡ true = p in cc

-- a key that lies in the parent lies in one row inside it, another in none
inside_parent : (bs : List Low) (i k : ℕ) (b : Low) (key : ℕ) → IsBucket b → 1 < b.bits → slice_get bs i ≡ Some b → slice_get bs k ≡ Some (sibling_of b)
    → key < 2 ^ 58 → count_by (λ x. has_key x key) bs ≤ 1 → count_by (λ x. covers (parent_of b) x && has_key x key) bs ≡ one_if (has_key (parent_of b) key)
inside_parent bs i k b key ok more own other small most = go (has_key (parent_of b) key) refl
  where
    test : Low → Bool
    test x = covers (parent_of b) x && has_key x key

    some : has_key (parent_of b) key ≡ true → 1 ≤ count_by test bs
    some h = elim (key_in_either b key ok more h) [
      | inl p ↦ count_at test bs i b own (both (covers (parent_of b) b) (has_key b key) (covers_own b) p)
      | inr p ↦ count_at test bs k (sibling_of b) other (both (covers (parent_of b) (sibling_of b)) (has_key (sibling_of b) key) (covers_sibling b ok more) p)
    ]

    go : (t : Bool) → t ≡ has_key (parent_of b) key → count_by test bs ≡ one_if t
    go true e = omega (arith, some (sym e), count_parts (λ x. has_key x key) (covers (parent_of b)) bs, most)
    go false e = count_none test bs (λ x h.
        let parts = of_both (covers (parent_of b) x) (has_key x key) h in
        let clash : false ≡ true = e ∙ covers_key (parent_of b) x key parts.0 parts.1 in cc)

one_if-le : (b : Bool) → one_if b ≤ 1
one_if-le true = omega arith
one_if-le false = omega arith

join_buckets : (lane : Low) (bs : List Low) (i k : ℕ) (b : Low) → AreRows lane bs → slice_get bs i ≡ Some b → slice_get bs k ≡ Some (sibling_of b) → 1 < b.bits
    → AreRows lane (placed number_of (parent_of b) (filter (λ x. not (covers (parent_of b) x)) bs))
join_buckets lane bs i k b h own other more =
    let ok = valid_at bs i b h.valid own in
    let rest = filter (λ x. not (covers (parent_of b) x)) bs in
    are_rows lane (placed number_of (parent_of b) rest) h.bucket
    (valid_placed (parent_of b) rest (parent_valid b ok more) (valid_filtered (λ x. not (covers (parent_of b) x)) bs h.valid))
    (λ key small.
    let p : Low → Bool = λ x. has_key x key in
    let whole : count_by p bs ≡ one_if (has_key lane key) = h.partition key small in
    let come = count_placed p number_of (parent_of b) rest in
    let gone = inside_parent bs i k b key ok more own other small (omega (arith, whole, one_if-le (has_key lane key))) in
    let parts = count_parts p (covers (parent_of b)) bs in
    omega (arith, come, gone, parts, whole))
    (rises_placed 0 (parent_of b) rest (omega arith) (rises_filtered (λ x. not (covers (parent_of b) x)) 0 bs (rises_of_rising bs h.rising)))

pub join_keeps : (lane : Low) (rows : List Row) (i k : ℕ) (row other joined : Row) → AreRows lane (buckets_of rows) → slice_get rows i ≡ Some row → slice_get rows k ≡ Some other
    → other.bucket ≡ sibling_of row.bucket → 1 < row.bucket.bits → joined.bucket ≡ parent_of row.bucket → AreRows lane (buckets_of (with_joined joined rows))
join_keeps lane rows i k row other joined h own found sibling more parent =
    let p : Low → Bool = λ x. not (covers joined.bucket x) in
    let rest = filter (λ (r : Row). p r.bucket) rows in
    let are : buckets_of (with_joined joined rows) ≡ placed number_of joined.bucket (filter p (buckets_of rows)) =
    buckets_placed joined rest ∙ ap (placed number_of joined.bucket) (buckets_filtered p rows) in
    let there : slice_get (buckets_of rows) k ≡ Some (sibling_of row.bucket) = bucket_at rows k other found ∙ ap Some sibling in
    subst (AreRows lane) (sym are) (subst (λ (b : Low). AreRows lane (placed number_of b (filter (λ x. not (covers b x)) (buckets_of rows)))) (sym parent)
    (join_buckets lane (buckets_of rows) i k row.bucket h (bucket_at rows i row own) there more))

-- two siblings are all that lies inside the parent
pub are_halves : (lane : Low) (rows : List Row) (at place : ℕ) (row other : Row) → AreRows lane (buckets_of rows) → slice_get rows at ≡ Some row → slice_get rows place ≡ Some other
    → other.bucket ≡ sibling_of row.bucket → 1 < row.bucket.bits → AreHalves rows at place
are_halves lane rows at place row other h own found sibling more = record {
  apart = λ same. sibling_differs row.bucket (ap (λ (r : Row). r.bucket) (one_read at row other own (subst (λ i. slice_get rows i ≡ Some other) (sym same) found)) ∙ sibling);
  inside = λ r r_at k x x_at. subst (λ (y : Row). (covers (parent_of y.bucket) x.bucket ≡ true) ↔ ((k ≡ at) ⊎ (k ≡ place))) (one_read at row r own r_at) (
    λ inside. held k x x_at inside,
    λ e. elim e [
      | inl first ↦ subst (λ (y : Row). covers (parent_of row.bucket) y.bucket ≡ true) (one_read at row x own (subst (λ i. slice_get rows i ≡ Some x) first x_at)) (covers_own row.bucket)
      | inr second ↦ subst (λ (y : Row). covers (parent_of row.bucket) y.bucket ≡ true) (one_read place other x found (subst (λ i. slice_get rows i ≡ Some x) second x_at))
          (subst (λ (y : Low). covers (parent_of row.bucket) y ≡ true) (sym sibling) (covers_sibling row.bucket ok more))
    ],
  );
}
  where
    one_read : (i : ℕ) (x y : Row) → slice_get rows i ≡ Some x → slice_get rows i ≡ Some y → x ≡ y
    one_read i x y e f = let g : Some x ≡ Some y = sym e ∙ f in cc

    ok : IsBucket row.bucket
    ok = valid_at (buckets_of rows) at row.bucket h.valid (bucket_at rows at row own)

    held : (k : ℕ) (x : Row) → slice_get rows k ≡ Some x → covers (parent_of row.bucket) x.bucket ≡ true → (k ≡ at) ⊎ (k ≡ place)
    held k x x_at inside =
        let okx = valid_at (buckets_of rows) k x.bucket h.valid (bucket_at rows k x x_at) in
        let key = x.bucket.low in
        let has = has_low x.bucket okx in
        let once = h.partition key (low_below x.bucket okx) in
        let most = one_if-le (has_key lane key) in
        elim (key_in_either row.bucket key ok more (covers_key (parent_of row.bucket) x.bucket key inside has)) [
          | inl first ↦ inl (one_row rows key k at x row (omega (arith, once, most)) x_at own has first)
          | inr second ↦ inr (one_row rows key k place x other (omega (arith, once, most)) x_at found has (subst (λ (y : Low). has_key y key ≡ true) (sym sibling) second))
        ]

-- so they are what goes
pub halves_go : (rows : List Row) (at place : ℕ) (row : Row) (parent : Low) → AreHalves rows at place → slice_get rows at ≡ Some row → at < length rows → place < length rows
    → parent ≡ parent_of row.bucket → (least most : ℕ) → ((at < place) → (least ≡ at) × (most ≡ place)) → ((place ≤ at) → (least ≡ place) × (most ≡ at))
    → filter (λ (r : Row). not (covers parent r.bucket)) rows ≡ remove (remove rows most) least
halves_go rows at place row parent h own lt within is least most up down = elim (cases_lt at place) [
  | inl less ↦ go at place less within (λ k e. e) (λ k e. e) (up less).0 (up less).1
  | inr more ↦ elim (cases_lt place at) [
    | inl less ↦ go place at less lt (λ k e. swapped e) (λ k e. swapped e) (down more).0 (down more).1
    | inr same ↦ absurd (h.apart (omega arith))
  ]
]
  where
    swapped : {A B : Type 0} → A ⊎ B → B ⊎ A
    swapped (inl a) = inr a
    swapped (inr b) = inl b

    yes : (x : Row) (k : ℕ) → slice_get rows k ≡ Some x → (k ≡ at) ⊎ (k ≡ place) → not (covers parent x.bucket) ≡ false
    yes x k x_at e = ap not (ap (λ p. covers p x.bucket) is ∙ (h.inside row own k x x_at).1 e)

    tested : (b : Bool) → (b ≡ true → ⊥) → not b ≡ true
    tested true f = absurd (f refl)
    tested false f = refl

    neither : {A B : Type 0} → (A → ⊥) → (B → ⊥) → A ⊎ B → ⊥
    neither f g (inl a) = f a
    neither f g (inr b) = g b

    go : (i j : ℕ) → i < j → j < length rows → ((k : ℕ) → (k ≡ at) ⊎ (k ≡ place) → (k ≡ i) ⊎ (k ≡ j)) → ((k : ℕ) → (k ≡ i) ⊎ (k ≡ j) → (k ≡ at) ⊎ (k ≡ place))
        → least ≡ i → most ≡ j → filter (λ (r : Row). not (covers parent r.bucket)) rows ≡ remove (remove rows most) least
    go i j less top out back least_is most_is =
        but_two (λ (r : Row). not (covers parent r.bucket)) rows i j less top
        (λ k x x_at first second. tested (covers parent x.bucket) (λ e. neither first second (out k ((h.inside row own k x x_at).0 (ap (λ p. covers p x.bucket) (sym is) ∙ e)))))
        (λ x x_at. yes x i x_at (back i (inl refl)))
        (λ x x_at. yes x j x_at (back j (inr refl)))
        ∙ ap₂ (λ m l. remove (remove rows m) l) (sym most_is) (sym least_is)

-- a row that may be joined, and its sibling
pub record Pair (lane : Low) (rows : List Row) (at : ℕ) : Type 0 where
  pub row : Row
  pub other : Row
  pub place : ℕ
  pub own : slice_get rows at ≡ Some row
  pub found : slice_get rows place ≡ Some other
  pub joinable : IsJoinable lane rows row other

abbrev pub pair_of : (lane : Low) (rows : List Row) (at : ℕ) (row other : Row) → slice_get rows at ≡ Some row → IsJoinable lane rows row other → Pair lane rows at
pair_of lane rows at row other own j = record {
  row = row;
  other = other;
  place = j.is_row.0;
  own = own;
  found = slice_get-get_or rows j.is_row.0 other j.is_row.1 ∙ ap Some j.is_row.2;
  joinable = j;
}

pub pair_at : (lane : Low) (rows : List Row) (at : ℕ) → at < length rows → IfSome (slice_get rows at) (λ row. (other : Row) × IsJoinable lane rows row other) → Pair lane rows at
pair_at lane rows at lt h =
    let some = some_with rows at (λ row. (other : Row) × IsJoinable lane rows row other) lt h in
    pair_of lane rows at some.0 some.1.1.0 some.1.0 some.1.1.1

pub pair_more : (lane : Low) (rows : List Row) (at : ℕ) (pair : Pair lane rows at) → IsBucket lane → 1 < pair.row.bucket.bits
pair_more lane rows at pair ok = omega (arith, ok.some, pair.joinable.inside)

-- the number looked up is the other row's
pub pair_key : (lane : Low) (rows : List Row) (at : ℕ) (pair : Pair lane rows at) (read : Row) (sibling : Low) (key : ℕ)
    → read ≡ get_or rows at read → sibling ≡ sibling_of read.bucket → key ≡ sibling.low → key ≡ pair.other.bucket.low
pair_key lane rows at pair read sibling key is sibling_is key_is =
    let row_is : read ≡ pair.row = read_is rows rows at read pair.row refl is pair.own in
    key_is ∙ ap (λ (b : Low). b.low) (sibling_is ∙ ap (λ (r : Row). sibling_of r.bucket) row_is ∙ sym pair.joinable.sibling)

-- exactly one row has it
pub pair_once : (lane : Low) (rows slice : List Row) (at : ℕ) (pair : Pair lane rows at) (key : ℕ) → AreRows lane (buckets_of rows) → slice ≡ rows → key ≡ pair.other.bucket.low
    → count_by (λ b. has_key b key) (buckets_of slice) ≡ 1
pair_once lane rows slice at pair key h same is =
    let low = pair.other.bucket.low in
    let there = bucket_at rows pair.place pair.other pair.found in
    let ok = valid_at (buckets_of rows) pair.place pair.other.bucket h.valid there in
    let least = count_at (λ b. has_key b low) (buckets_of rows) pair.place pair.other.bucket there (has_low pair.other.bucket ok) in
    let most : count_by (λ b. has_key b low) (buckets_of rows) ≡ one_if (has_key lane low) = h.partition low (low_below pair.other.bucket ok) in
    let one : count_by (λ b. has_key b low) (buckets_of rows) ≡ 1 = omega (arith, least, most, one_if-le (has_key lane low)) in
    subst (λ (xs : List Row). count_by (λ b. has_key b key) (buckets_of xs) ≡ 1) (sym same) (subst (λ k. count_by (λ b. has_key b k) (buckets_of rows) ≡ 1) (sym is) one)

-- and that is the other row
pub pair_found : (lane : Low) (rows slice : List Row) (at : ℕ) (pair : Pair lane rows at) (key result : ℕ) → AreRows lane (buckets_of rows) → slice ≡ rows → key ≡ pair.other.bucket.low
    → ((i : ℕ) (r : Row) → slice_get slice i ≡ Some r → has_key r.bucket key ≡ true → i ≡ result) → slice_get rows result ≡ Some pair.other
pair_found lane rows slice at pair key result h same is only =
    let ok = valid_at (buckets_of rows) pair.place pair.other.bucket h.valid (bucket_at rows pair.place pair.other pair.found) in
    let place_is : pair.place ≡ result = only pair.place pair.other (subst (λ (xs : List Row). slice_get xs pair.place ≡ Some pair.other) (sym same) pair.found)
    (subst (λ k. has_key pair.other.bucket k ≡ true) (sym is) (has_low pair.other.bucket ok)) in
    subst (λ i. slice_get rows i ≡ Some pair.other) place_is pair.found

-- ---- whether a row may be joined

true_of : (b : Bool) → 1 ≤ one_if b → b ≡ true
true_of true h = refl
true_of false h = absurd (omega (arith, h))

-- the sibling of a row of more bits lies in the lane
sibling_inside : (lane b : Low) → IsBucket b → lane.bits < b.bits → 1 < b.bits → has_key lane b.low ≡ true → has_key lane (sibling_of b).low ≡ true
sibling_inside lane b ok inside more has =
    let le : lane.bits ≤ b.bits - 1 = omega arith in
    key_has lane (sibling_of b).low
    (sym (low_of_low (sibling_of b).low lane.bits (b.bits - 1) le) ∙ ap (λ x. x % 2 ^ lane.bits) (covers_low (parent_of b) (sibling_of b) (covers_sibling b ok more))
    ∙ low_of_low b.low lane.bits (b.bits - 1) le ∙ key_in lane b.low has)

pub read_more : (lane : Low) (read : Row) → IsBucket lane → lane.bits < read.bucket.bits → 1 < read.bucket.bits
read_more lane read ok inside = omega (arith, ok.some)

-- exactly one row has the number of the sibling
pub sibling_once : (lane : Low) (rows slice : List Row) (at : ℕ) (read : Row) (sibling : Low) (key : ℕ) → AreRows lane (buckets_of rows) → slice ≡ rows
    → at < length rows → read ≡ get_or rows at read → lane.bits < read.bucket.bits → sibling ≡ sibling_of read.bucket → key ≡ sibling.low
    → count_by (λ b. has_key b key) (buckets_of slice) ≡ 1
sibling_once lane rows slice at read sibling key h same lt is inside sibling_is key_is =
    let b = read.bucket in
    let there = bucket_at rows at read (slice_get_read rows (length rows) at read refl lt is) in
    let ok = valid_at (buckets_of rows) at b h.valid there in
    let more = read_more lane read h.bucket inside in
    let own : count_by (λ x. has_key x b.low) (buckets_of rows) ≡ one_if (has_key lane b.low) = h.partition b.low (low_below b ok) in
    let seen = count_at (λ x. has_key x b.low) (buckets_of rows) at b there (has_low b ok) in
    let has = true_of (has_key lane b.low) (omega (arith, own, seen)) in
    let low = (sibling_of b).low in
    let one : count_by (λ x. has_key x low) (buckets_of rows) ≡ 1 =
    h.partition low (low_below (sibling_of b) (sibling_valid b ok more)) ∙ ap one_if (sibling_inside lane b ok inside more has) in
    let key_low : key ≡ low = key_is ∙ ap (λ (x : Low). x.low) sibling_is in
    subst (λ (xs : List Row). count_by (λ x. has_key x key) (buckets_of xs) ≡ 1) (sym same) (subst (λ k. count_by (λ x. has_key x k) (buckets_of rows) ≡ 1) (sym key_low) one)

pub may_be_joined : (d : Rows) (at place : ℕ) (read found : Row) (sibling : Low) → at < length d.rows → place < length d.rows
    → read ≡ get_or d.rows at read → found ≡ get_or d.rows place found → sibling ≡ sibling_of read.bucket → d.lane.bits < read.bucket.bits → MayJoin read sibling found → CanJoin d at
may_be_joined d at place read found sibling lt within is found_is sibling_is inside may =
    let own : slice_get d.rows at ≡ Some read = slice_get_read d.rows (length d.rows) at read refl lt is in
    let j : IsJoinable d.lane d.rows read found = record {
      is_row = (place, within, sym found_is);
      sibling = may.0 ∙ sibling_is;
      inside = inside;
      active = may.1.0;
      deletes = may.1.1;
    } in
    subst (λ (o : Option Row). IfSome o (λ row. (other : Row) × IsJoinable d.lane d.rows row other)) (sym own) (found, j)

pub must_be_joined : (d : Rows) (slice : List Row) (at place key : ℕ) (read found : Row) (sibling : Low) → AreRows d.lane (buckets_of d.rows) → slice ≡ d.rows → at < length d.rows
    → read ≡ get_or d.rows at read → found ≡ get_or d.rows place found → sibling ≡ sibling_of read.bucket → key ≡ sibling.low
    → ((i : ℕ) (r : Row) → slice_get slice i ≡ Some r → has_key r.bucket key ≡ true → i ≡ place) → CanJoin d at → MayJoin read sibling found
must_be_joined d slice at place key read found sibling h same lt is found_is sibling_is key_is only can =
    let pair = pair_at d.lane d.rows at lt can in
    let low = pair_key d.lane d.rows at pair read sibling key is sibling_is key_is in
    let there = pair_found d.lane d.rows slice at pair key place h same low only in
    let row_is : read ≡ pair.row = read_is d.rows d.rows at read pair.row refl is pair.own in
    let other_is : found ≡ pair.other = read_is d.rows d.rows place found pair.other refl found_is there in
    let bucket : found.bucket ≡ sibling = ap (λ (r : Row). r.bucket) other_is ∙ pair.joinable.sibling ∙ ap (λ (r : Row). sibling_of r.bucket) (sym row_is) ∙ sym sibling_is in
    let active : read.active ≡ found.active = ap (λ (r : Row). r.active) row_is ∙ pair.joinable.active ∙ ap (λ (r : Row). r.active) (sym other_is) in
    let deletes : (read.deleting ≡ None) ⊎ (found.deleting ≡ None) = elim pair.joinable.deletes [
      | inl none ↦ inl (ap (λ (r : Row). r.deleting) row_is ∙ none)
      | inr none ↦ inr (ap (λ (r : Row). r.deleting) other_is ∙ none)
    ] in
    (bucket, (active, deletes))
