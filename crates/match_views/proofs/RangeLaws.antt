-- Numbers of documents in a range, and lists of them joined.
use Rattle.std.proofs.Common.{◌≡◌, ℕ, ℤ, pos, negsuc, zero, suc, ◌-◌, ◌<◌, ◌-ℤ◌, ◌+ℤ◌, ◌==◌, ◌&&◌, ◌||◌, ◌⊎◌, inl, inr, Bool, true, false, cond, List, [], ◌∷◌, ◌++◌, map, length, take, drop, Option, Some, None, refl, sym, ap, ap₂, subst, ◌∙◌, arith, length-drop, bytes_eq}
use mir.Val.{SFits}
use mir.Syntax.{w64}
use Rattle.std.specs.List.{list_any, AllByRecursion}
use Rattle.std.specs.Ordering.{int_eq, int_cmp, MatchOrdering}
use Rattle.std.specs.declared.cmp.Ordering.{Ordering}
use Rattle.std.specs.declared.cmp.Ordering.TheVariants.{Less, Equal, Greater}
use Rattle.std.specs.Cmp.{int_ranks}
use Rattle.std.specs.Int.Signed.{◌≤ℤ◌, ◌<ℤ◌}
use Rattle.std.specs.FinMap as fin
use Rattle.std.proofs.lemmas.Int.{ints}
use Rattle.std.proofs.lemmas.Bool.Decides.{Decides-int_eq}
use Rattle.std.proofs.lemmas.List.{take_all}
use Rattle.proof_basics.proofs.Numbers.{apart}
use Rattle.proof_basics.proofs.Options.{none_some, some_same}
use Rattle.proof_basics.proofs.Tests.{clash, same-by, both, and_true, or_true, or_left, or_right}
use Rattle.doc_types.specs.declared.values.FieldValue.{FieldValue}
use Rattle.doc_types.specs.declared.values.FieldValue.TheVariants.{Int, Text, Ints, Texts}
use Rattle.documents.specs.Fields.{Contents}
use Rattle.attribute_columns.specs.Columns.{numbers_of, has_number}
use Rattle.document_rows.specs.Rows.{Rows}
use Rattle.document_rows.specs.Reading.{row_at, places_from, places_where, is_of_type, value_has_number, has_number_in, IsWide}
use Rattle.query_text.specs.declared.terms.Rel.{Rel}
use Rattle.query_text.specs.Truth.{relates, value_relates}
use Rattle.match_views.specs.Merging.{joined}
use Rattle.document_ids.specs.Parts.{type_of}
use Rattle.document_indexes.specs.Entering.{cell_of}
use Rattle.view_columns.specs.Cells.{is_one, HaveOne}
use Rattle.match_views.specs.declared.ranges.Bound.{Bound}
use Rattle.match_views.specs.Bounds.{within}
use Rattle.match_views.specs.Ranges.{some_number, AreLists, has_some, AreAll}
use Rattle.match_views.proofs.PlaceLaws.{joined-places, same-places, no-places}

-- how far a number is above 0
abbrev pub above_zero : ℤ → ℕ
above_zero (pos n) = suc n
above_zero (negsuc n) = zero

-- ---- lists joined

some_of : (name field : List ℕ) (ps : List (ℤ × List ℕ)) (d : Contents) (n : ℕ) → (has_some name field (take n ps) d || has_some name field (drop n ps) d) ≡ has_some name field ps d
some_of name field ps d zero = refl
some_of name field [] d (suc n) = refl
some_of name field (p ∷ ps) d (suc n) = step (has_number_in name field p.0 d) (has_some name field (take n ps) d) (has_some name field (drop n ps) d) (some_of name field ps d n)
  where
    step : (a b c : Bool) → (b || c) ≡ has_some name field ps d → ((a || b) || c) ≡ (a || has_some name field ps d)
    step true b c e = refl
    step false b c e = e

pub lists_take : (name field : List ℕ) (rows : Rows) (ps : List (ℤ × List ℕ)) (n : ℕ) → AreLists name field rows ps → AreLists name field rows (take n ps)
lists_take name field rows ps zero h = tt
lists_take name field rows [] (suc n) h = tt
lists_take name field rows (p ∷ ps) (suc n) h = (h.0, lists_take name field rows ps n h.1)

pub lists_drop : (name field : List ℕ) (rows : Rows) (ps : List (ℤ × List ℕ)) (n : ℕ) → AreLists name field rows ps → AreLists name field rows (drop n ps)
lists_drop name field rows ps zero h = h
lists_drop name field rows [] (suc n) h = tt
lists_drop name field rows (p ∷ ps) (suc n) h = lists_drop name field rows ps n h.1

pub lists_with : (name field : List ℕ) (rows : Rows) (ps : List (ℤ × List ℕ)) (p : ℤ × List ℕ) → AreLists name field rows ps → p.1 ≡ places_where (has_number_in name field p.0) rows
    → AreLists name field rows (ps ++ p ∷ [])
lists_with name field rows [] p h e = (e, tt)
lists_with name field rows (q ∷ ps) p h e = (h.0, lists_with name field rows ps p h.1 e)

-- no lists
pub united_none : (name field : List ℕ) (rows : Rows) (ps : List (ℤ × List ℕ)) (out : List ℕ) → ps ≡ [] → out ≡ [] → out ≡ places_where (has_some name field ps) rows
united_none name field rows ps out e o = o ∙ sym (no-places (has_some name field ps) (λ d. ap (λ qs. has_some name field qs d) e) 0 rows)

or_false : (b : Bool) → (b || false) ≡ b
or_false true = refl
or_false false = refl

-- one list
pub united_one : (name field : List ℕ) (rows : Rows) (p : ℤ × List ℕ) (ps : List (ℤ × List ℕ)) (out : List ℕ) → ps ≡ p ∷ [] → AreLists name field rows ps → out ≡ p.1
    → out ≡ places_where (has_some name field ps) rows
united_one name field rows p ps out e h o =
    o ∙ (subst (AreLists name field rows) e h).0 ∙ same-places _ _ (λ d. sym (ap (λ qs. has_some name field qs d) e ∙ or_false (has_number_in name field p.0 d))) 0 rows

-- the lists of both halves
pub united_halves : (name field : List ℕ) (rows : Rows) (ps : List (ℤ × List ℕ)) (n : ℕ) (low high out : List ℕ) → low ≡ places_where (has_some name field (take n ps)) rows
    → high ≡ places_where (has_some name field (drop n ps)) rows → out ≡ joined low high → out ≡ places_where (has_some name field ps) rows
united_halves name field rows ps n low high out l h o =
    o ∙ ap₂ joined l h ∙ joined-places (has_some name field (take n ps)) (has_some name field (drop n ps)) 0 rows ∙ same-places _ _ (λ d. some_of name field ps d n) 0 rows

-- ---- documents that are there

pub same_there : (p q : Contents → Bool) (n : ℕ) (rows : Rows) → ((x : ℕ) (d : Contents) → row_at rows x ≡ Some d → p d ≡ q d) → places_from p n rows ≡ places_from q n rows
same_there p q n [] f = refl
same_there p q n (None ∷ rows) f = same_there p q (suc n) rows (λ x. f (suc x))
same_there p q n (Some d ∷ rows) f = ap₂ (λ t ys. cond t (n ∷ ys) ys) (f zero d refl) (same_there p q (suc n) rows (λ x. f (suc x)))

more : (t : Bool) (n : ℕ) (ys : List ℕ) → 0 < length ys → 0 < length (cond t (n ∷ ys) ys)
more true n ys h = omega arith
more false n ys h = h

first_place : (t : Bool) (n : ℕ) (ys : List ℕ) → t ≡ true → 0 < length (cond t (n ∷ ys) ys)
first_place true n ys e = omega arith
first_place false n ys e = clash e refl

pub some_place : (p : Contents → Bool) (n : ℕ) (rows : Rows) (x : ℕ) (d : Contents) → row_at rows x ≡ Some d → p d ≡ true → 0 < length (places_from p n rows)
some_place p n [] zero d e h = absurd (none_some d e)
some_place p n [] (suc x) d e h = absurd (none_some d e)
some_place p n (None ∷ rows) zero d e h = absurd (none_some d e)
some_place p n (None ∷ rows) (suc x) d e h = some_place p (suc n) rows x d e h
some_place p n (Some c ∷ rows) zero d e h = first_place (p c) n (places_from p (suc n) rows) (ap p (some_same c d e) ∙ h)
some_place p n (Some c ∷ rows) (suc x) d e h = more (p c) n (places_from p (suc n) rows) (some_place p (suc n) rows x d e h)

-- ---- numbers that pass a test

-- a number of a list that passes a test
has_then : (test : ℤ → Bool) (q : ℤ) (zs : List ℤ) → has_number q zs ≡ true → test q ≡ true → list_any test zs ≡ true
has_then test q [] h t = clash h refl
has_then test q (z ∷ zs) h t = by_or (or_true (int_eq q z) (has_number q zs) h) (has_then test q zs)
  where
    by_or : (int_eq q z ≡ true) ⊎ (has_number q zs ≡ true) → (has_number q zs ≡ true → test q ≡ true → list_any test zs ≡ true) → (test z || list_any test zs) ≡ true
    by_or (inl e) f = or_left (test z) (list_any test zs) (ap test (sym ((Decides-int_eq q z).0 e)) ∙ t)
    by_or (inr e) f = or_right (test z) (list_any test zs) (f e t)

-- such a number of a list
has_such : (test : ℤ → Bool) (zs : List ℤ) → list_any test zs ≡ true → (y : ℤ) × ((has_number y zs ≡ true) × (test y ≡ true))
has_such test [] h = clash h refl
has_such test (z ∷ zs) h = by_or (or_true (test z) (list_any test zs) h) (has_such test zs)
  where
    by_or : (test z ≡ true) ⊎ (list_any test zs ≡ true) → (list_any test zs ≡ true → (y : ℤ) × ((has_number y zs ≡ true) × (test y ≡ true))) → (y : ℤ) × ((has_number y (z ∷ zs) ≡ true) × (test y ≡ true))
    by_or (inl e) f = (z, (or_left (int_eq z z) (has_number z zs) ((Decides-int_eq z z).1 refl), e))
    by_or (inr e) f = let r = f e in (r.0, (or_right (int_eq r.0 z) (has_number r.0 zs) r.1.0, r.1.1))

value_then : (test : ℤ → Bool) (q : ℤ) (v : Option FieldValue) → value_has_number q v ≡ true → test q ≡ true → some_number test v ≡ true
value_then test q None h t = clash h refl
value_then test q (Some v) h t = has_then test q (numbers_of v) h t

value_such : (test : ℤ → Bool) (v : Option FieldValue) → some_number test v ≡ true → (y : ℤ) × ((value_has_number y v ≡ true) × (test y ≡ true))
value_such test None h = clash h refl
value_such test (Some v) h = has_such test (numbers_of v) h

passes : (name field : List ℕ) (test : ℤ → Bool) (parts : List (ℤ × List ℕ)) (d : Contents) → AllByRecursion (λ p. test p.0 ≡ true) parts → has_some name field parts d ≡ true
    → (is_of_type name d && some_number test (fin.get d.fields field)) ≡ true
passes name field test [] d a h = clash h refl
passes name field test (p ∷ ps) d a h = by_or (or_true (has_number_in name field p.0 d) (has_some name field ps d) h) (passes name field test ps d a.1)
  where
    by_or : (has_number_in name field p.0 d ≡ true) ⊎ (has_some name field ps d ≡ true) → (has_some name field ps d ≡ true → (is_of_type name d && some_number test (fin.get d.fields field)) ≡ true)
        → (is_of_type name d && some_number test (fin.get d.fields field)) ≡ true
    by_or (inl e) f = let r = both (is_of_type name d) (value_has_number p.0 (fin.get d.fields field)) e in
        and_true (is_of_type name d) (some_number test (fin.get d.fields field)) r.0 (value_then test p.0 (fin.get d.fields field) r.1 a.0)
    by_or (inr e) f = f e

among : (name field : List ℕ) (q : ℤ) (parts : List (ℤ × List ℕ)) (d : Contents) → list_any (λ p. int_eq p.0 q) parts ≡ true → has_number_in name field q d ≡ true → has_some name field parts d ≡ true
among name field q [] d h n = clash h refl
among name field q (p ∷ ps) d h n = by_or (or_true (int_eq p.0 q) (list_any (λ p. int_eq p.0 q) ps) h) (among name field q ps d)
  where
    by_or : (int_eq p.0 q ≡ true) ⊎ (list_any (λ p. int_eq p.0 q) ps ≡ true) → (list_any (λ p. int_eq p.0 q) ps ≡ true → has_number_in name field q d ≡ true → has_some name field ps d ≡ true)
        → (has_number_in name field p.0 d || has_some name field ps d) ≡ true
    by_or (inl e) f = or_left (has_number_in name field p.0 d) (has_some name field ps d) (ap (λ z. has_number_in name field z d) ((Decides-int_eq p.0 q).0 e) ∙ n)
    by_or (inr e) f = or_right (has_number_in name field p.0 d) (has_some name field ps d) (f e n)

value_same : (r : Rel) (z : ℤ) (v : Option FieldValue) → some_number (relates r z) v ≡ value_relates r z v
value_same r z None = refl
value_same r z (Some (Int y)) = or_false (relates r z y)
value_same r z (Some (Text t)) = refl
value_same r z (Some (Ints ys)) = refl
value_same r z (Some (Texts ts)) = refl

-- the documents that have one of the numbers that pass a test
all_passing : (name field : List ℕ) (rows : Rows) (test : ℤ → Bool) (parts : List (ℤ × List ℕ)) → AreAll name field rows test parts
    → places_where (has_some name field parts) rows ≡ places_where (λ d. is_of_type name d && some_number test (fin.get d.fields field)) rows
all_passing name field rows test parts a = same_there _ _ 0 rows step
  where
    step : (x : ℕ) (d : Contents) → row_at rows x ≡ Some d → has_some name field parts d ≡ (is_of_type name d && some_number test (fin.get d.fields field))
    step x d e = same-by _ _ (passes name field test parts d a.pass) (λ h.
        let t = both (is_of_type name d) (some_number test (fin.get d.fields field)) h in
        let y = value_such test (fin.get d.fields field) t.1 in
        let n = and_true (is_of_type name d) (value_has_number y.0 (fin.get d.fields field)) t.0 y.1.0 in
        among name field y.0 parts d (a.all y.0 y.1.1 (some_place (has_number_in name field y.0) 0 rows x d e n)) n)

-- a test that is made twice
twice : (b : Bool) → (b && b) ≡ b
twice true = refl
twice false = refl

some-same : (t u : ℤ → Bool) (zs : List ℤ) → ((z : ℤ) → t z ≡ u z) → list_any t zs ≡ list_any u zs
some-same t u [] e = refl
some-same t u (z ∷ zs) e = ap₂ (λ a b. a || b) (e z) (some-same t u zs e)

value_twice : (b : Bound) (v : Option FieldValue) → some_number (within b b) v ≡ value_relates b.rel b.number v
value_twice b None = refl
value_twice b (Some v) = some-same (within b b) (relates b.rel b.number) (numbers_of v) (λ z. twice (relates b.rel b.number z)) ∙ value_same b.rel b.number (Some v)

-- those that have one of the numbers that stand so to a number
pub all_related : (name field : List ℕ) (rows : Rows) (b : Bound) (parts : List (ℤ × List ℕ)) → AreAll name field rows (within b b) parts
    → places_where (has_some name field parts) rows ≡ places_where (λ d. is_of_type name d && value_relates b.rel b.number (fin.get d.fields field)) rows
all_related name field rows b parts a = all_passing name field rows (within b b) parts a ∙ same-places _ _ (λ d. ap (λ t. is_of_type name d && t) (value_twice b (fin.get d.fields field))) 0 rows

-- those that have one that stands so to two numbers, where each has one at most
value_within : (one two : Bound) (v : Option FieldValue) → is_one v ≡ true → some_number (within one two) v ≡ (value_relates one.rel one.number v && value_relates two.rel two.number v)
value_within one two None h = refl
value_within one two (Some (Int y)) h = or_false (within one two y)
value_within one two (Some (Text t)) h = refl
value_within one two (Some (Ints ys)) h = clash h refl
value_within one two (Some (Texts ts)) h = refl

pub all_within : (name field : List ℕ) (rows : Rows) (one two : Bound) (parts : List (ℤ × List ℕ)) → AreAll name field rows (within one two) parts → HaveOne name field (row_at rows)
    → places_where (has_some name field parts) rows ≡ places_where (λ d. is_of_type name d && (value_relates one.rel one.number (fin.get d.fields field) && value_relates two.rel two.number (fin.get d.fields field))) rows
all_within name field rows one two parts a h = all_passing name field rows (within one two) parts a ∙ same_there _ _ 0 rows step
  where
    step : (x : ℕ) (d : Contents) → row_at rows x ≡ Some d → (is_of_type name d && some_number (within one two) (fin.get d.fields field))
        ≡ (is_of_type name d && (value_relates one.rel one.number (fin.get d.fields field) && value_relates two.rel two.number (fin.get d.fields field)))
    step x d e = by (bytes_eq (type_of d.id) name) (ap (λ r. is_one (cell_of name field r)) (sym e) ∙ h x)
      where
        by : (t : Bool) → is_one (cond t (fin.get d.fields field) None) ≡ true → (t && some_number (within one two) (fin.get d.fields field))
            ≡ (t && (value_relates one.rel one.number (fin.get d.fields field) && value_relates two.rel two.number (fin.get d.fields field)))
        by true o = value_within one two (fin.get d.fields field) o
        by false o = refl

-- the numbers that pass the test, as far as below a number
pub record AreSoFar (name field : List ℕ) (rows : Rows) (test : ℤ → Bool) (low from : ℤ) (parts : List (ℤ × List ℕ)) : Type 0 where
  pub lists : AreLists name field rows parts
  pub pass : AllByRecursion (λ p. test p.0 ≡ true) parts
  pub start : low ≤ℤ from
  pub done : (q : ℤ) → low ≤ℤ q → q <ℤ from → test q ≡ true → 0 < length (places_where (has_number_in name field q) rows) → list_any (λ p. int_eq p.0 q) parts ≡ true

all_with : (test : ℤ → Bool) (ps : List (ℤ × List ℕ)) (p : ℤ × List ℕ) → AllByRecursion (λ p. test p.0 ≡ true) ps → test p.0 ≡ true → AllByRecursion (λ p. test p.0 ≡ true) (ps ++ p ∷ [])
all_with test [] p h e = (e, tt)
all_with test (q ∷ ps) p h e = (h.0, all_with test ps p h.1 e)

last_there : (q : ℤ) (ps : List (ℤ × List ℕ)) (p : ℤ × List ℕ) → p.0 ≡ q → list_any (λ p. int_eq p.0 q) (ps ++ p ∷ []) ≡ true
last_there q [] p e = or_left (int_eq p.0 q) false ((Decides-int_eq p.0 q).1 e)
last_there q (r ∷ ps) p e = or_right (int_eq r.0 q) (list_any (λ p. int_eq p.0 q) (ps ++ p ∷ [])) (last_there q ps p e)

still_there : (q : ℤ) (ps : List (ℤ × List ℕ)) (p : ℤ × List ℕ) → list_any (λ p. int_eq p.0 q) ps ≡ true → list_any (λ p. int_eq p.0 q) (ps ++ p ∷ []) ≡ true
still_there q [] p e = clash e refl
still_there q (r ∷ ps) p e = by_or (or_true (int_eq r.0 q) (list_any (λ p. int_eq p.0 q) ps) e) (still_there q ps p)
  where
    by_or : (int_eq r.0 q ≡ true) ⊎ (list_any (λ p. int_eq p.0 q) ps ≡ true) → (list_any (λ p. int_eq p.0 q) ps ≡ true → list_any (λ p. int_eq p.0 q) (ps ++ p ∷ []) ≡ true)
        → (int_eq r.0 q || list_any (λ p. int_eq p.0 q) (ps ++ p ∷ [])) ≡ true
    by_or (inl h) f = or_left (int_eq r.0 q) (list_any (λ p. int_eq p.0 q) (ps ++ p ∷ [])) h
    by_or (inr h) f = or_right (int_eq r.0 q) (list_any (λ p. int_eq p.0 q) (ps ++ p ∷ [])) (f h)

empty_none : {A : Type 0} (xs : List ℕ) → xs ≡ [] → 0 < length xs → A
empty_none [] e h = absurd (omega arith)
empty_none (x ∷ xs) e h = cc

-- where a number stands to two others
stands : (q from own : ℤ) → q <ℤ (own +ℤ pos 1) → (q <ℤ from) ⊎ (((from ≤ℤ q) × (q <ℤ own)) ⊎ (q ≡ own))
stands q from own h = by_from (int_cmp q from) (int_ranks q from)
  where
    by_own : (o : Ordering) → MatchOrdering o (q <ℤ own) (q ≡ own) (own <ℤ q) → from ≤ℤ q → (q <ℤ from) ⊎ (((from ≤ℤ q) × (q <ℤ own)) ⊎ (q ≡ own))
    by_own Less m f = inr (inl (f, m))
    by_own Equal m f = inr (inr m)
    by_own Greater m f = absurd (omega (arith, ints, m, h))

    by_from : (o : Ordering) → MatchOrdering o (q <ℤ from) (q ≡ from) (from <ℤ q) → (q <ℤ from) ⊎ (((from ≤ℤ q) × (q <ℤ own)) ⊎ (q ≡ own))
    by_from Less m = inl m
    by_from Equal m = by_own (int_cmp q own) (int_ranks q own) (omega (arith, ints, m))
    by_from Greater m = by_own (int_cmp q own) (int_ranks q own) (omega (arith, ints, m))

module _ (name field : List ℕ) (rows : Rows) (test : ℤ → Bool) (low from own : ℤ) (parts : List (ℤ × List ℕ)) where
  -- a number more that passes
  so_far_with : (ids : List ℕ) (with : List (ℤ × List ℕ)) → AreSoFar name field rows test low from parts → from ≤ℤ own → ((q : ℤ) → from ≤ℤ q → q <ℤ own → places_where (has_number_in name field q) rows ≡ [])
      → ids ≡ places_where (has_number_in name field own) rows → test own ≡ true → with ≡ parts ++ (own, ids) ∷ [] → AreSoFar name field rows test low (own +ℤ pos 1) with
  so_far_with ids with s f least i t w = subst (λ ps. AreSoFar name field rows test low (own +ℤ pos 1) ps) (sym w) (record {
    lists = lists_with name field rows parts (own, ids) s.lists i;
    pass = all_with test parts (own, ids) s.pass t;
    start = (let a = s.start in omega (arith, ints, a, f));
    done = λ q l b e h. by_place q e h l (stands q from own b);
  })
    where
      by_place : (q : ℤ) → test q ≡ true → 0 < length (places_where (has_number_in name field q) rows) → low ≤ℤ q → (q <ℤ from) ⊎ (((from ≤ℤ q) × (q <ℤ own)) ⊎ (q ≡ own)) → list_any (λ p. int_eq p.0 q) (parts ++ (own, ids) ∷ []) ≡ true
      by_place q e h l (inl b) = still_there q parts (own, ids) (s.done q l b e h)
      by_place q e h l (inr (inl b)) = empty_none _ (least q b.0 b.1) h
      by_place q e h l (inr (inr b)) = last_there q parts (own, ids) (sym b)

  -- a number more that doesn't
  so_far_past : (with : List (ℤ × List ℕ)) → AreSoFar name field rows test low from parts → from ≤ℤ own → ((q : ℤ) → from ≤ℤ q → q <ℤ own → places_where (has_number_in name field q) rows ≡ [])
      → test own ≡ false → with ≡ parts → AreSoFar name field rows test low (own +ℤ pos 1) with
  so_far_past with s f least t w = subst (λ ps. AreSoFar name field rows test low (own +ℤ pos 1) ps) (sym w) (record {
    lists = s.lists;
    pass = s.pass;
    start = (let a = s.start in omega (arith, ints, a, f));
    done = λ q l b e h. by_place q e h l (stands q from own b);
  })
    where
      by_place : (q : ℤ) → test q ≡ true → 0 < length (places_where (has_number_in name field q) rows) → low ≤ℤ q → (q <ℤ from) ⊎ (((from ≤ℤ q) × (q <ℤ own)) ⊎ (q ≡ own)) → list_any (λ p. int_eq p.0 q) parts ≡ true
      by_place q e h l (inl b) = s.done q l b e h
      by_place q e h l (inr (inl b)) = empty_none _ (least q b.0 b.1) h
      by_place q e h l (inr (inr b)) = clash (ap test (sym b) ∙ e) t

  -- a number more
  pub so_far_next : (ids : List ℕ) (with : List (ℤ × List ℕ)) → AreSoFar name field rows test low from parts → from ≤ℤ own → ((q : ℤ) → from ≤ℤ q → q <ℤ own → places_where (has_number_in name field q) rows ≡ [])
      → ids ≡ places_where (has_number_in name field own) rows → with ≡ cond (test own) (parts ++ (own, ids) ∷ []) parts → AreSoFar name field rows test low (own +ℤ pos 1) with
  so_far_next ids with s f least i w = by_test (test own) refl w
    where
      by_test : (t : Bool) → test own ≡ t → with ≡ cond t (parts ++ (own, ids) ∷ []) parts → AreSoFar name field rows test low (own +ℤ pos 1) with
      by_test true t w = so_far_with ids with s f least i t w
      by_test false t w = so_far_past with s f least t w

-- how a measure falls
pub nearer : (high from own : ℤ) → from ≤ℤ own → own ≤ℤ high → (own ≡ high → ⊥) → above_zero (high -ℤ (own +ℤ pos 1)) < above_zero (high -ℤ from)
nearer high from own f h n = falls (high -ℤ (own +ℤ pos 1)) (high -ℤ from) (apart_below own high h n) (omega (arith, ints, f))
  where
    apart_below : (a b : ℤ) → a ≤ℤ b → (a ≡ b → ⊥) → pos 0 ≤ℤ (b -ℤ (a +ℤ pos 1))
    apart_below a b l n = by_order (int_cmp a b) (int_ranks a b)
      where
        by_order : (o : Ordering) → MatchOrdering o (a <ℤ b) (a ≡ b) (b <ℤ a) → pos 0 ≤ℤ (b -ℤ (a +ℤ pos 1))
        by_order Less m = omega (arith, ints, m)
        by_order Equal m = absurd (n m)
        by_order Greater m = absurd (omega (arith, ints, m, l))

    falls : (a b : ℤ) → pos 0 ≤ℤ a → a <ℤ b → above_zero a < above_zero b
    falls (pos x) (pos y) l h = omega (arith, ints, h)
    falls (pos x) (negsuc y) l h = absurd (omega (arith, ints, h))
    falls (negsuc x) b l h = absurd (omega (arith, ints, l))

-- all numbers that pass lie below
pub so_far_all : (name field : List ℕ) (rows : Rows) (test : ℤ → Bool) (low from high : ℤ) (parts : List (ℤ × List ℕ)) → AreSoFar name field rows test low from parts
    → ((q : ℤ) → IsWide q → test q ≡ true → (low ≤ℤ q) × (q ≤ℤ high)) → ((q : ℤ) → 0 < length (places_where (has_number_in name field q) rows) → IsWide q)
    → ((q : ℤ) → from ≤ℤ q → q ≤ℤ high → places_where (has_number_in name field q) rows ≡ []) → AreAll name field rows test parts
so_far_all name field rows test low from high parts s bounds wide none = record {
  lists = s.lists;
  pass = s.pass;
  all = λ q e h. by_place q e h (bounds q (wide q h) e) (int_cmp q from) (int_ranks q from);
}
  where
    by_place : (q : ℤ) → test q ≡ true → 0 < length (places_where (has_number_in name field q) rows) → (low ≤ℤ q) × (q ≤ℤ high) → (o : Ordering) → MatchOrdering o (q <ℤ from) (q ≡ from) (from <ℤ q) → list_any (λ p. int_eq p.0 q) parts ≡ true
    by_place q e h b Less m = s.done q b.0 m e h
    by_place q e h b Equal m = empty_none _ (none q (omega (arith, ints, m)) b.1) h
    by_place q e h b Greater m = empty_none _ (none q (omega (arith, ints, m)) b.1) h

length_zero : {X : Type 0} (xs : List X) → (length xs == 0) ≡ true → xs ≡ []
length_zero [] e = refl
length_zero (w ∷ ws) e = clash e (apart (length (w ∷ ws)) 0 (λ h. omega (arith, h)))

pub map_none : {X Y : Type 0} (f : X → Y) (xs : List X) → (length xs == 0) ≡ true → map f xs ≡ []
map_none f xs e = ap (map f) (length_zero xs e)

map_more : {X Y : Type 0} (f : X → Y) (xs : List X) (x : X) → map f (xs ++ x ∷ []) ≡ map f xs ++ f x ∷ []
map_more f [] x = refl
map_more f (y ∷ ys) x = ap (λ r. f y ∷ r) (map_more f ys x)

-- a list after a push, each item shown
pub pushed : {X Y : Type 0} (f : X → Y) (xs ys : List X) (x : X) → ys ≡ xs ++ x ∷ [] → map f ys ≡ map f xs ++ f x ∷ []
pushed f xs ys x e = ap (map f) e ∙ map_more f xs x

map_take : {X Y : Type 0} (f : X → Y) (n : ℕ) (xs : List X) → take n (map f xs) ≡ map f (take n xs)
map_take f zero xs = refl
map_take f (suc n) [] = refl
map_take f (suc n) (x ∷ xs) = ap (λ r. f x ∷ r) (map_take f n xs)

map_drop : {X Y : Type 0} (f : X → Y) (n : ℕ) (xs : List X) → drop n (map f xs) ≡ map f (drop n xs)
map_drop f zero xs = refl
map_drop f (suc n) [] = refl
map_drop f (suc n) (x ∷ xs) = map_drop f n xs

-- what is said of a part of shown lists is said of the shown part
pub half_of : {X : Type 0} (f : X → ℤ × List ℕ) (name field : List ℕ) (rows : Rows) (xs part : List X) (some : List (ℤ × List ℕ)) (out : List ℕ) → some ≡ map f part
    → ((name field : List ℕ) (rows : Rows) → AreLists name field rows (map f part) → out ≡ places_where (has_some name field (map f part)) rows) → AreLists name field rows some
    → out ≡ places_where (has_some name field some) rows
half_of f name field rows xs part some out e g h = g name field rows (subst (AreLists name field rows) e h) ∙ ap (λ ps. places_where (has_some name field ps) rows) (sym e)

pub first_half : {X : Type 0} (f : X → ℤ × List ℕ) (n : ℕ) (xs part : List X) → part ≡ take n xs → take n (map f xs) ≡ map f part
first_half f n xs part e = map_take f n xs ∙ ap (map f) (sym e)

pub second_half : {X : Type 0} (f : X → ℤ × List ℕ) (n : ℕ) (xs part : List X) → part ≡ take (length xs - n) (drop n xs) → drop n (map f xs) ≡ map f part
second_half f n xs part e = map_drop f n xs ∙ ap (map f) (sym (e ∙ take_all (length xs - n) (drop n xs) (omega (arith, length-drop n xs))))

pub past_end : {A : Type 0} (q own high : ℤ) → own ≡ high → (own +ℤ pos 1) ≤ℤ q → q ≤ℤ high → A
past_end q own high e a b = absurd (omega (arith, ints, e, a, b))

-- the number behind one that isn't the last
wide-of : (z : ℤ) → SFits w64 z → IsWide z
wide-of (pos n) f = (let l : n < 9223372036854775808 = f.sfits in (omega (arith, ints), omega (arith, ints, l)))
wide-of (negsuc n) f = (let l : n < 9223372036854775808 = f.sfits in (omega (arith, ints, l), omega (arith, ints)))

of-wide : (z : ℤ) → IsWide z → SFits w64 z
of-wide (pos n) f = record { sfits = let l : n < 9223372036854775808 = (let h = f.1 in omega (arith, ints, h)) in l }
of-wide (negsuc n) f = record { sfits = let l : n < 9223372036854775808 = (let h = f.0 in omega (arith, ints, h)) in l }

pub next_fits : (own high : ℤ) → own ≤ℤ high → (own ≡ high → ⊥) → SFits w64 own → SFits w64 high → SFits w64 (own +ℤ pos 1)
next_fits own high l n f g = by_order (int_cmp own high) (int_ranks own high)
  where
    by_order : (o : Ordering) → MatchOrdering o (own <ℤ high) (own ≡ high) (high <ℤ own) → SFits w64 (own +ℤ pos 1)
    by_order Less m = of-wide (own +ℤ pos 1) (let a = (wide-of own f).0 in let b = (wide-of high g).1 in (omega (arith, ints, a), omega (arith, ints, m, b)))
    by_order Equal m = absurd (n m)
    by_order Greater m = absurd (omega (arith, ints, m, l))
