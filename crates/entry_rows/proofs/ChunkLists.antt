-- Rows joined to one list, and what a change of one row makes of it.
use Rattle.std.proofs.Common.{◌≡◌, ◌==◌, ℕ, zero, suc, ◌+◌, ◌<◌, ◌≤◌, List, [], ◌∷◌, ◌++◌, length, get_or, set, take, drop, insert, refl, sym, ap, ap₂, subst, ◌∙◌, arith, drop-cons, add-one, Bool, true, false, cond, not}
use Rattle.std.specs.List.{flat_map, All, filter}
use Rattle.std.proofs.lemmas.Bool.Decides.{nat_tests}
use Rattle.std.proofs.lemmas.Grind.{flat_map-append}
use Rattle.std.proofs.lemmas.List.{append_assoc, length-append, length-take-le, take-append-drop, take-take, set_split, take_at, drop_at, set-append_left, take_more_set, drop-set-lt, take_all, take_more, append-nil, drop_all, length-set, take-set-le}
use Rattle.std.proofs.lemmas.List.Edits.{insert_end}
use Rattle.std.proofs.lemmas.List.Elements.{All-append, All-take, All-cons, All-drop}
use Rattle.std.proofs.lemmas.List.{set-append_right}
use Rattle.std.proofs.lemmas.List.Concat.{get_or-flat_map}

-- an element of a list that has some
pub element : {R : Type 0} (rs : List R) (i : ℕ) → i < length rs → R
element [] i lt = absurd (omega arith)
element (r ∷ rs) i lt = r

-- one row among the others
module _ {R X : Type 0} (f : R → List X) where
  pub split_row : (rs : List R) (i : ℕ) (d : R) → i < length rs → flat_map f rs ≡ flat_map f (take i rs) ++ (f (get_or rs i d) ++ flat_map f (drop (suc i) rs))
  split_row rs i d lt =
      ap (flat_map f) (sym (take-append-drop i rs)) ∙ flat_map-append f (take i rs) (drop i rs)
      ∙ ap (λ l. flat_map f (take i rs) ++ flat_map f l) (drop-cons rs i d lt)

  pub set_row : (rs : List R) (i : ℕ) (r : R) → i < length rs → flat_map f (set rs i r) ≡ flat_map f (take i rs) ++ (f r ++ flat_map f (drop (suc i) rs))
  set_row rs i r lt = ap (flat_map f) (set_split rs i r lt) ∙ flat_map-append f (take i rs) (r ∷ drop (suc i) rs)

  -- the rows before one are among those before a later one
  pub before_le : (rs : List R) (i j : ℕ) → i ≤ j → length (flat_map f (take i rs)) ≤ length (flat_map f (take j rs))
  before_le rs i j le =
      let parts : flat_map f (take j rs) ≡ flat_map f (take i rs) ++ flat_map f (drop i (take j rs)) =
      ap (flat_map f) (sym (take-append-drop i (take j rs))) ∙ flat_map-append f (take i (take j rs)) (drop i (take j rs)) ∙ ap (λ l. flat_map f l ++ flat_map f (drop i (take j rs))) (take-take i j rs le) in
      omega (arith, ap length parts, length-append (flat_map f (take i rs)) (flat_map f (drop i (take j rs))))

  -- where the next row begins
  pub next_row : (rs : List R) (i : ℕ) (d : R) → i < length rs → length (flat_map f (take (suc i) rs)) ≡ length (flat_map f (take i rs)) + length (f (get_or rs i d))
  next_row [] i d lt = absurd (omega arith)
  next_row (r ∷ rs) zero d lt = omega (arith, length-append (f r) [])
  next_row (r ∷ rs) (suc i) d lt = omega (arith, next_row rs i d (omega arith), length-append (f r) (flat_map f (take i rs)), length-append (f r) (flat_map f (take (suc i) rs)))

  pub row_within : (rs : List R) (i : ℕ) (d : R) → i < length rs → length (flat_map f (take i rs)) + length (f (get_or rs i d)) ≤ length (flat_map f rs)
  row_within rs i d lt = omega (arith, ap length (split_row rs i d lt), length-append (flat_map f (take i rs)) (f (get_or rs i d) ++ flat_map f (drop (suc i) rs)), length-append (f (get_or rs i d)) (flat_map f (drop (suc i) rs)))

-- an edit of the middle is one of the whole
module _ {X : Type 0} where
  pub insert_middle : (front xs back : List X) (a : ℕ) (y : X) → a ≤ length xs → front ++ (insert xs a y ++ back) ≡ insert (front ++ (xs ++ back)) (length front + a) y
  insert_middle front xs back a y le =
      ap (λ l. front ++ l) (append_assoc (take a xs) (y ∷ drop a xs) back)
      ∙ sym (append_assoc front (take a xs) (y ∷ drop a xs ++ back))
      ∙ ap₂ (λ t d. t ++ y ∷ d) (sym taken) (sym dropped)
    where
      whole : front ++ (xs ++ back) ≡ (front ++ take a xs) ++ (drop a xs ++ back)
      whole =
          ap (λ l. front ++ (l ++ back)) (sym (take-append-drop a xs))
          ∙ ap (λ l. front ++ l) (append_assoc (take a xs) (drop a xs) back)
          ∙ sym (append_assoc front (take a xs) (drop a xs ++ back))

      len : length (front ++ take a xs) ≡ length front + a
      len = omega (arith, length-append front (take a xs), length-take-le a xs le)

      taken : take (length front + a) (front ++ (xs ++ back)) ≡ front ++ take a xs
      taken = ap (take (length front + a)) whole ∙ take_at (front ++ take a xs) (drop a xs ++ back) (length front + a) len

      dropped : drop (length front + a) (front ++ (xs ++ back)) ≡ drop a xs ++ back
      dropped = ap (drop (length front + a)) whole ∙ drop_at (front ++ take a xs) (drop a xs ++ back) (length front + a) len

  pub set_middle : (front xs back : List X) (a : ℕ) (y : X) → a < length xs → front ++ (set xs a y ++ back) ≡ set (front ++ (xs ++ back)) (length front + a) y
  set_middle front xs back a y lt =
      ap (λ l. front ++ l) (sym (set-append_left xs back a y lt))
      ∙ ap (λ k. front ++ set (xs ++ back) k y) (omega arith)
      ∙ sym (set-append_right front (xs ++ back) (length front) (length front + a) y refl (omega arith))

-- an edit of one row
module _ {R X : Type 0} (f : R → List X) (rs : List R) (i : ℕ) (d r : R) (lt : i < length rs) where
  pub inserted : (a : ℕ) (y : X) → a ≤ length (f (get_or rs i d)) → f r ≡ insert (f (get_or rs i d)) a y → flat_map f (set rs i r) ≡ insert (flat_map f rs) (length (flat_map f (take i rs)) + a) y
  inserted a y le is =
      set_row f rs i r lt ∙ ap (λ l. flat_map f (take i rs) ++ (l ++ flat_map f (drop (suc i) rs))) is
      ∙ insert_middle (flat_map f (take i rs)) (f (get_or rs i d)) (flat_map f (drop (suc i) rs)) a y le
      ∙ ap (λ l. insert l (length (flat_map f (take i rs)) + a) y) (sym (split_row f rs i d lt))

  pub replaced : (a : ℕ) (y : X) → a < length (f (get_or rs i d)) → f r ≡ set (f (get_or rs i d)) a y → flat_map f (set rs i r) ≡ set (flat_map f rs) (length (flat_map f (take i rs)) + a) y
  replaced a y lt1 is =
      set_row f rs i r lt ∙ ap (λ l. flat_map f (take i rs) ++ (l ++ flat_map f (drop (suc i) rs))) is
      ∙ set_middle (flat_map f (take i rs)) (f (get_or rs i d)) (flat_map f (drop (suc i) rs)) a y lt1
      ∙ ap (λ l. set l (length (flat_map f (take i rs)) + a) y) (sym (split_row f rs i d lt))

  pub same_row : f r ≡ f (get_or rs i d) → flat_map f (set rs i r) ≡ flat_map f rs
  same_row is = set_row f rs i r lt ∙ ap (λ l. flat_map f (take i rs) ++ (l ++ flat_map f (drop (suc i) rs))) is ∙ sym (split_row f rs i d lt)

module _ {R X : Type 0} (f : R → List X) (rs : List R) (i : ℕ) (r1 r2 : R) (lt : i < length rs) where
  two : insert (set rs i r1) (i + 1) r2 ≡ take i rs ++ (r1 ∷ (r2 ∷ drop (i + 1) rs))
  two =
      ap₂ (λ t d. t ++ r2 ∷ d) (take_more_set rs i r1 lt) (drop-set-lt (i + 1) rs i r1 (omega arith))
      ∙ append_assoc (take i rs) (r1 ∷ []) (r2 ∷ drop (i + 1) rs)

  pub halved : (d : R) → f r1 ++ f r2 ≡ f (get_or rs i d) → flat_map f (insert (set rs i r1) (i + 1) r2) ≡ flat_map f rs
  halved d both =
      ap (flat_map f) two ∙ flat_map-append f (take i rs) (r1 ∷ (r2 ∷ drop (i + 1) rs))
      ∙ ap (λ l. flat_map f (take i rs) ++ l) (sym (append_assoc (f r1) (f r2) (flat_map f (drop (i + 1) rs))) ∙ ap (λ l. l ++ flat_map f (drop (i + 1) rs)) both)
      ∙ ap (λ n. flat_map f (take i rs) ++ (f (get_or rs i d) ++ flat_map f (drop n rs))) (add-one i)
      ∙ sym (split_row f rs i d lt)

  pub halves_some : All (λ r. 0 < length (f r)) rs → 0 < length (f r1) → 0 < length (f r2) → All (λ r. 0 < length (f r)) (insert (set rs i r1) (i + 1) r2)
  halves_some some a b = rw two (All-append (λ r. 0 < length (f r)) (take i rs) (r1 ∷ (r2 ∷ drop (i + 1) rs)) (All-take (λ r. 0 < length (f r)) i rs some)
      (All-cons (λ r. 0 < length (f r)) r1 (r2 ∷ drop (i + 1) rs) a (All-cons (λ r. 0 < length (f r)) r2 (drop (i + 1) rs) b (All-drop (λ r. 0 < length (f r)) (i + 1) rs some))))

-- one element more behind the last row
pub behind_last : {R X : Type 0} (f : R → List X) (rs : List R) (i : ℕ) (d : R) (a : ℕ) (y : X) → i + 1 ≡ length rs → a ≡ length (f (get_or rs i d))
    → insert (flat_map f rs) (length (flat_map f (take i rs)) + a) y ≡ flat_map f rs ++ y ∷ []
behind_last f rs i d a y last is =
    let lt : i < length rs = omega (arith, last) in
    let all : length (flat_map f (take (suc i) rs)) ≡ length (flat_map f rs) = ap (λ l. length (flat_map f l)) (take_all (suc i) rs (omega (arith, last))) in
    let end : length (flat_map f (take i rs)) + a ≡ length (flat_map f rs) = omega (arith, next_row f rs i d lt, all, is) in
    ap (λ k. insert (flat_map f rs) k y) end ∙ insert_end (flat_map f rs) y

-- a fact of all slots is one of each row's
pub All-row : {R X : Type 0} (f : R → List X) (P : X → Type 0) (rs : List R) (i : ℕ) (d : R) → i < length rs → All P (flat_map f rs) → All P (f (get_or rs i d))
All-row f P rs i d lt all k e within = subst P (get_or-flat_map f rs i k d e lt within) (all (length (flat_map f (take i rs)) + k) e (omega (arith, row_within f rs i d lt)))

-- the rows so far, with one more
pub rows_more : {R X : Type 0} (f : R → List X) (rs : List R) (i : ℕ) (d : R) → i < length rs → flat_map f (take (i + 1) rs) ≡ flat_map f (take i rs) ++ f (get_or rs i d)
rows_more f rs i d lt = ap (flat_map f) (take_more rs i d lt) ∙ flat_map-append f (take i rs) (get_or rs i d ∷ []) ∙ ap (λ l. flat_map f (take i rs) ++ l) (append-nil (f (get_or rs i d)))

pub one_more : {R X : Type 0} (f : R → List X) (rs : List R) (r : R) → flat_map f (rs ++ r ∷ []) ≡ flat_map f rs ++ f r
one_more f rs r = flat_map-append f rs (r ∷ []) ∙ ap (λ l. flat_map f rs ++ l) (append-nil (f r))

-- the elements before a place in a row, and those from there on
module _ {R X : Type 0} (f : R → List X) (rs : List R) (i : ℕ) (d : R) (lt : i < length rs) (a : ℕ) (le : a ≤ length (f (get_or rs i d))) where
  pub take_place : take (length (flat_map f (take i rs)) + a) (flat_map f rs) ≡ flat_map f (take i rs) ++ take a (f (get_or rs i d))
  take_place =
      let front = flat_map f (take i rs) in
      let row = f (get_or rs i d) in
      let back = flat_map f (drop (suc i) rs) in
      let parts : flat_map f rs ≡ (front ++ take a row) ++ (drop a row ++ back) =
      split_row f rs i d lt ∙ ap (λ l. front ++ (l ++ back)) (sym (take-append-drop a row)) ∙ ap (λ l. front ++ l) (append_assoc (take a row) (drop a row) back)
      ∙ sym (append_assoc front (take a row) (drop a row ++ back)) in
      ap (take (length front + a)) parts ∙ take_at (front ++ take a row) (drop a row ++ back) (length front + a) (omega (arith, length-append front (take a row), length-take-le a row le))

  pub drop_place : drop (length (flat_map f (take i rs)) + a) (flat_map f rs) ≡ drop a (f (get_or rs i d)) ++ flat_map f (drop (suc i) rs)
  drop_place =
      let front = flat_map f (take i rs) in
      let row = f (get_or rs i d) in
      let back = flat_map f (drop (suc i) rs) in
      let parts : flat_map f rs ≡ (front ++ take a row) ++ (drop a row ++ back) =
      split_row f rs i d lt ∙ ap (λ l. front ++ (l ++ back)) (sym (take-append-drop a row)) ∙ ap (λ l. front ++ l) (append_assoc (take a row) (drop a row) back)
      ∙ sym (append_assoc front (take a row) (drop a row ++ back)) in
      ap (drop (length front + a)) parts ∙ drop_at (front ++ take a row) (drop a row ++ back) (length front + a) (omega (arith, length-append front (take a row), length-take-le a row le))

-- the first of two lists together: what the first list has of them, and the rest from the second
pub take_two : {X : Type 0} (xs ys : List X) (n many rest : ℕ) → n ≡ many + rest → many ≤ length xs → (many < length xs → rest ≡ 0) → take n (xs ++ ys) ≡ take many xs ++ take rest ys
take_two [] ys n zero rest is le none = ap (λ k. take k ys) (omega (arith, is))
take_two [] ys n (suc many) rest is le none = absurd (omega (arith, le))
take_two (x ∷ xs) ys n zero rest is le none =
    let no : rest ≡ 0 = none (omega arith) in
    ap (λ k. take k (x ∷ xs ++ ys)) (let e : n ≡ 0 = omega (arith, is, no) in e) ∙ ap (λ k. take k ys) (sym no)
take_two (x ∷ xs) ys zero (suc many) rest is le none = absurd (omega (arith, is))
take_two (x ∷ xs) ys (suc n) (suc many) rest is le none = ap (λ l. x ∷ l) (take_two xs ys n many rest (omega (arith, is)) (omega (arith, le)) (λ lt. none (omega (arith, lt))))

-- so many elements from a place on: some of its row, and the rest from the next row on
pub take_along : {R X : Type 0} (f : R → List X) (rs : List R) (i a n many rest : ℕ) (d : R) → i < length rs → a ≤ length (f (get_or rs i d)) → n ≡ many + rest
    → many ≤ length (drop a (f (get_or rs i d))) → (many < length (drop a (f (get_or rs i d))) → rest ≡ 0)
    → take n (drop (length (flat_map f (take i rs)) + a) (flat_map f rs)) ≡ take many (drop a (f (get_or rs i d))) ++ take rest (drop (length (flat_map f (take (i + 1) rs)) + 0) (flat_map f rs))
take_along f rs i a n many rest d lt le is few none =
    let front = flat_map f (take (i + 1) rs) in
    let behind : drop (length front + 0) (flat_map f rs) ≡ flat_map f (drop (suc i) rs) =
    ap (drop (length front + 0)) (ap (flat_map f) (sym (take-append-drop (i + 1) rs)) ∙ flat_map-append f (take (i + 1) rs) (drop (i + 1) rs))
    ∙ drop_at front (flat_map f (drop (i + 1) rs)) (length front + 0) (omega arith) ∙ ap (λ k. flat_map f (drop k rs)) (add-one i) in
    ap (take n) (drop_place f rs i d lt a le) ∙ take_two (drop a (f (get_or rs i d))) (flat_map f (drop (suc i) rs)) n many rest is few none
    ∙ ap (λ l. take many (drop a (f (get_or rs i d))) ++ take rest l) (sym behind)

-- a row of which a part is taken out
pub cut_one : {R X : Type 0} (f : R → List X) (rs : List R) (i : ℕ) (d r : R) (a b : ℕ) → i < length rs → a ≤ b → b ≤ length (f (get_or rs i d)) → f r ≡ take a (f (get_or rs i d)) ++ drop b (f (get_or rs i d))
    → flat_map f (set rs i r) ≡ take (length (flat_map f (take i rs)) + a) (flat_map f rs) ++ drop (length (flat_map f (take i rs)) + b) (flat_map f rs)
cut_one f rs i d r a b lt le within is =
    let front = flat_map f (take i rs) in
    let back = flat_map f (drop (suc i) rs) in
    let low = take a (f (get_or rs i d)) in
    let high = drop b (f (get_or rs i d)) in
    set_row f rs i r lt ∙ ap (λ l. front ++ (l ++ back)) is ∙ ap (λ l. front ++ l) (append_assoc low high back) ∙ sym (append_assoc front low (high ++ back))
    ∙ ap₂ (λ l m. l ++ m) (sym (take_place f rs i d lt a (omega arith))) (sym (drop_place f rs i d lt b within))

-- the last row that is left, cut short
pub cut_last : {R X : Type 0} (f : R → List X) (rs : List R) (i : ℕ) (d r : R) (a : ℕ) → i < length rs → a ≤ length (f (get_or rs i d)) → f r ≡ take a (f (get_or rs i d))
    → flat_map f (set (take (i + 1) rs) i r) ≡ take (length (flat_map f (take i rs)) + a) (flat_map f rs)
cut_last f rs i d r a lt le is =
    let rows = take (i + 1) rs in
    let short : i < length rows = omega (arith, length-take-le (i + 1) rs (omega arith)) in
    let none : drop (suc i) rows ≡ [] = drop_all (suc i) rows (omega (arith, length-take-le (i + 1) rs (omega arith))) in
    set_row f rows i r short
    ∙ ap₂ (λ l m. flat_map f l ++ m) (take-take i (i + 1) rs (omega arith)) (ap (λ l. f r ++ flat_map f l) none ∙ append-nil (f r) ∙ is)
    ∙ sym (take_place f rs i d lt a le)

-- two rows cut, and those between them taken out
pub cut_two : {R X : Type 0} (f : R → List X) (rs : List R) (i j : ℕ) (d e r q : R) (a b : ℕ) → i < j → j < length rs → a ≤ length (f (get_or rs i d)) → b ≤ length (f (get_or rs j e))
    → f r ≡ take a (f (get_or rs i d)) → f q ≡ drop b (f (get_or rs j e))
    → flat_map f (take (i + 1) (set (set rs i r) j q) ++ drop j (set (set rs i r) j q)) ≡ take (length (flat_map f (take i rs)) + a) (flat_map f rs) ++ drop (length (flat_map f (take j rs)) + b) (flat_map f rs)
cut_two f rs i j d e r q a b lt within le le2 is is2 =
    let first = set rs i r in
    let len : j < length first = omega (arith, length-set rs i r) in
    let front : take (i + 1) (set first j q) ≡ take i rs ++ r ∷ [] = take-set-le (i + 1) first j q (omega arith) ∙ take_more_set rs i r (omega arith) in
    let back : drop j (set first j q) ≡ q ∷ drop (suc j) rs =
    ap (drop j) (set_split first j q len) ∙ drop_at (take j first) (q ∷ drop (suc j) first) j (length-take-le j first (omega arith)) ∙ ap (λ l. q ∷ l) (drop-set-lt (suc j) rs i r (omega arith)) in
    flat_map-append f (take (i + 1) (set first j q)) (drop j (set first j q))
    ∙ ap₂ (λ l m. flat_map f l ++ flat_map f m) front back
    ∙ ap₂ (λ l m. l ++ m) (one_more f (take i rs) r ∙ ap (λ l. flat_map f (take i rs) ++ l) is ∙ sym (take_place f rs i d (omega arith) a le)) (ap (λ l. l ++ flat_map f (drop (suc j) rs)) is2 ∙ sym (drop_place f rs j e within b le2))

-- rows without elements may be left out
pub drop_empty : {R X : Type 0} (f : R → List X) (p : R → Bool) → ((r : R) → p r ≡ false → f r ≡ []) → (rs : List R) → flat_map f (filter p rs) ≡ flat_map f rs
drop_empty f p none [] = refl
drop_empty f p none (r ∷ rs) = by_test (p r) refl (drop_empty f p none rs)
  where
    by_test : (b : Bool) → p r ≡ b → flat_map f (filter p rs) ≡ flat_map f rs → flat_map f (cond b (r ∷ filter p rs) (filter p rs)) ≡ f r ++ flat_map f rs
    by_test true is rest = ap (λ l. f r ++ l) rest
    by_test false is rest = rest ∙ ap (λ l. l ++ flat_map f rs) (sym (none r is))

-- of the test whether a row has elements
pub failed : (b : Bool) → not b ≡ false → b ≡ true
failed true e = refl
failed false e = cc

pub some_in : (n : ℕ) → not (n == 0) ≡ true → (m : ℕ) → n ≡ m → 0 < m
some_in n e m is = grind (arith, nat_tests)
