-- Rows by place: which places a test tells, and what stands at each place after a change.
use Rattle.std.proofs.Common.{◌≡◌, ◌↔◌, inl, inr, ℕ, zero, suc, ◌+◌, ◌<◌, ◌≤◌, ◌==◌, ◌||◌, ◌++◌, Bool, true, false, cond, List, [], ◌∷◌, map, length, Option, None, Some, refl, sym, ap, ap₂, subst, ◌∙◌, arith, set}
use Rattle.std.specs.List.{Contains, AllByRecursion}
use Rattle.std.specs.Option.{IsSome}
use Rattle.std.specs.Str.{bytes_eq}
use Rattle.std.proofs.lemmas.Bool.Decides.{nat_tests}
use Rattle.proof_basics.proofs.Numbers.{apart}
use Rattle.proof_basics.proofs.Tests.{clash}
use Rattle.proof_basics.proofs.Options.{none_some}
use Rattle.local_ids.specs.Rising.{IsRising}
use Rattle.local_ids.proofs.RisingLaws.{cons_has}
use Rattle.documents.specs.Fields.{Contents}
use Rattle.document_rows.specs.Rows.{Rows, is_of, has_row, free_place, put_free, replaced, without, AreDistinct}
use Rattle.document_rows.specs.Reading.{row_at, places_from, places_where, is_any}
use Rattle.document_rows.proofs.RowLaws.{same_id}
use Rattle.node_rows.specs.Kept.{passes, set_at}

-- ---- the places that a test tells

above_more : (m n : ℕ) (ys : List ℕ) (t : Bool) → m < n → AllByRecursion (λ y. m < y) ys → AllByRecursion (λ y. m < y) (cond t (n ∷ ys) ys)
above_more m n ys true h r = (h, r)
above_more m n ys false h r = r

above : (p : Contents → Bool) (m n : ℕ) (rows : Rows) → m < n → AllByRecursion (λ y. m < y) (places_from p n rows)
above p m n [] h = tt
above p m n (None ∷ rows) h = above p m (suc n) rows (omega (arith, h))
above p m n (Some d ∷ rows) h = above_more m n (places_from p (suc n) rows) (p d) h (above p m (suc n) rows (omega (arith, h)))

rise_more : (n : ℕ) (ys : List ℕ) (t : Bool) → AllByRecursion (λ y. n < y) ys → IsRising ys → IsRising (cond t (n ∷ ys) ys)
rise_more n ys true h r = (h, r)
rise_more n ys false h r = r

pub rise_from : (p : Contents → Bool) (n : ℕ) (rows : Rows) → IsRising (places_from p n rows)
rise_from p n [] = tt
rise_from p n (None ∷ rows) = rise_from p (suc n) rows
rise_from p n (Some d ∷ rows) = rise_more n (places_from p (suc n) rows) (p d) (above p n (suc n) rows (omega arith)) (rise_from p (suc n) rows)

pub none_has : (x : ℕ) → Contains [] x → ⊥
none_has x h = (let l = h.1 in omega (arith, l))

-- a place, counted from the first
pub record IsFound (p : Contents → Bool) (n : ℕ) (rows : Rows) (k : ℕ) : Type 0 where
  pub at : ℕ
  pub same : k ≡ n + at
  pub passed : passes p (row_at rows at) ≡ true

later : (p : Contents → Bool) (n : ℕ) (r : Option Contents) (rows : Rows) (k : ℕ) → IsFound p (suc n) rows k → IsFound p n (r ∷ rows) k
later p n r rows k f = record { at = suc f.at; same = (let e = f.same in omega (arith, e)); passed = f.passed }

pub found : (p : Contents → Bool) (n : ℕ) (rows : Rows) (k : ℕ) → Contains (places_from p n rows) k → IsFound p n rows k
found p n [] k h = absurd (none_has k h)
found p n (None ∷ rows) k h = later p n None rows k (found p (suc n) rows k h)
found p n (Some d ∷ rows) k h = by_test (p d) refl h (found p (suc n) rows k)
  where
    by_test : (t : Bool) → p d ≡ t → Contains (cond t (n ∷ places_from p (suc n) rows) (places_from p (suc n) rows)) k → (Contains (places_from p (suc n) rows) k → IsFound p (suc n) rows k) → IsFound p n (Some d ∷ rows) k
    by_test true e h ih = elim ((cons_has n k (places_from p (suc n) rows)).0 h) [
      | inl same ↦ record { at = 0; same = omega (arith, same); passed = e }
      | inr i ↦ later p n (Some d) rows k (ih i)
    ]
    by_test false e h ih = later p n (Some d) rows k (ih h)

pub tells : (p : Contents → Bool) (n : ℕ) (rows : Rows) (j : ℕ) → passes p (row_at rows j) ≡ true → Contains (places_from p n rows) (n + j)
tells p n [] j h = clash h refl
tells p n (None ∷ rows) zero h = clash h refl
tells p n (None ∷ rows) (suc j) h = subst (Contains (places_from p (suc n) rows)) (let e : suc n + j ≡ n + suc j = omega arith in e) (tells p (suc n) rows j h)
tells p n (Some d ∷ rows) zero h = first (p d) h
  where
    first : (t : Bool) → t ≡ true → Contains (cond t (n ∷ places_from p (suc n) rows) (places_from p (suc n) rows)) (n + 0)
    first true e = (cons_has n (n + 0) (places_from p (suc n) rows)).1 (inl (omega arith))
    first false e = clash e refl
tells p n (Some d ∷ rows) (suc j) h = by_test (p d) (subst (Contains (places_from p (suc n) rows)) (let e : suc n + j ≡ n + suc j = omega arith in e) (tells p (suc n) rows j h))
  where
    by_test : (t : Bool) → Contains (places_from p (suc n) rows) (n + suc j) → Contains (cond t (n ∷ places_from p (suc n) rows) (places_from p (suc n) rows)) (n + suc j)
    by_test true i = (cons_has n (n + suc j) (places_from p (suc n) rows)).1 (inr i)
    by_test false i = i

pub told : (p : Contents → Bool) (rows : Rows) (k : ℕ) → Contains (places_where p rows) k ↔ (passes p (row_at rows k) ≡ true)
told p rows k = (
  λ h. (let f = found p 0 rows k h in let e = f.same in let same : f.at ≡ k = omega (arith, e) in subst (λ j. passes p (row_at rows j) ≡ true) same f.passed),
  λ h. subst (Contains (places_where p rows)) (let e : 0 + k ≡ k = omega arith in e) (tells p 0 rows k h),
)

-- ---- a row at a place

next_test : (a b : ℕ) → (suc a == suc b) ≡ (a == b)
next_test a b = by_tests (suc a == suc b) (a == b) refl refl
  where
    by_tests : (t u : Bool) → (suc a == suc b) ≡ t → (a == b) ≡ u → t ≡ u
    by_tests true true e f = refl
    by_tests false false e f = refl
    by_tests true false e f = absurd (grind (arith, nat_tests))
    by_tests false true e f = absurd (grind (arith, nat_tests))

pub at_set : (n : ℕ) (r : Option Contents) (rows : Rows) (k : ℕ) → n ≤ length rows → row_at (set_at n r rows) k ≡ cond (k == n) r (row_at rows k)
at_set zero r [] zero l = refl
at_set zero r [] (suc k) l = sym (ap (λ t. cond t r None) (apart (suc k) 0 (omega arith)))
at_set (suc n) r [] k l = absurd (omega (arith, l))
at_set zero r (x ∷ rows) zero l = refl
at_set zero r (x ∷ rows) (suc k) l = sym (ap (λ t. cond t r (row_at rows k)) (apart (suc k) 0 (omega arith)))
at_set (suc n) r (x ∷ rows) zero l = sym (ap (λ t. cond t r x) (apart 0 (suc n) (omega arith)))
at_set (suc n) r (x ∷ rows) (suc k) l = at_set n r rows k (omega (arith, l)) ∙ ap (λ t. cond t r (row_at rows k)) (sym (next_test k n))

pub past : (rows : Rows) (k : ℕ) → length rows ≤ k → row_at rows k ≡ None
past [] k l = refl
past (r ∷ rows) zero l = absurd (omega (arith, l))
past (r ∷ rows) (suc k) l = past rows k (omega (arith, l))

pub within : (rows : Rows) (k : ℕ) (d : Contents) → row_at rows k ≡ Some d → k < length rows
within [] k d e = absurd (none_some d e)
within (r ∷ rows) zero d e = omega arith
within (r ∷ rows) (suc k) d e = (let i = within rows k d e in omega (arith, i))

pub long_set : (n : ℕ) (r : Option Contents) (rows : Rows) → n < length rows → length (set_at n r rows) ≡ length rows
long_set n r [] l = absurd (omega (arith, l))
long_set zero r (x ∷ rows) l = refl
long_set (suc n) r (x ∷ rows) l = ap suc (long_set n r rows (omega (arith, l)))

pub long_past : (n : ℕ) (r : Option Contents) (rows : Rows) → length rows ≤ n → set_at n r rows ≡ rows ++ r ∷ []
long_past n r [] l = refl
long_past zero r (x ∷ rows) l = absurd (omega (arith, l))
long_past (suc n) r (x ∷ rows) l = ap (λ ys. x ∷ ys) (long_past n r rows (omega (arith, l)))

-- what a list of entries shows, after one was set or added
pub shown_set : {A : Type 0} (f : A → Option Contents) (xs : List A) (n : ℕ) (x : A) → n < length xs → map f (set xs n x) ≡ set_at n (f x) (map f xs)
shown_set f [] n x l = absurd (omega (arith, l))
shown_set f (y ∷ ys) zero x l = refl
shown_set f (y ∷ ys) (suc n) x l = ap (λ zs. f y ∷ zs) (shown_set f ys n x (omega (arith, l)))

pub shown_more : {A : Type 0} (f : A → Option Contents) (xs : List A) (n : ℕ) (x : A) → length xs ≤ n → map f (xs ++ x ∷ []) ≡ set_at n (f x) (map f xs)
shown_more f [] n x l = refl
shown_more f (y ∷ ys) zero x l = absurd (omega (arith, l))
shown_more f (y ∷ ys) (suc n) x l = ap (λ zs. f y ∷ zs) (shown_more f ys n x (omega (arith, l)))

pub shown_long : {A : Type 0} (f : A → Option Contents) (xs : List A) → length (map f xs) ≡ length xs
shown_long f [] = refl
shown_long f (x ∷ xs) = ap suc (shown_long f xs)

-- a row set to what it is
pub set_same : (n : ℕ) (rows : Rows) → n < length rows → row_at rows n ≡ None → set_at n None rows ≡ rows
set_same n [] l e = absurd (omega (arith, l))
set_same zero (x ∷ rows) l e = ap (λ r. r ∷ rows) (sym e)
set_same (suc n) (x ∷ rows) l e = ap (λ ys. x ∷ ys) (set_same n rows (omega (arith, l)) e)

-- ---- the least free place

pub put_is : (d : Contents) (rows : Rows) → put_free d rows ≡ set_at (free_place rows) (Some d) rows
put_is d [] = refl
put_is d (None ∷ rows) = refl
put_is d (Some e ∷ rows) = ap (λ ys. Some e ∷ ys) (put_is d rows) ∙ ap (λ n. set_at n (Some d) (Some e ∷ rows)) (let one : suc (free_place rows) ≡ 1 + free_place rows = omega arith in one)

pub free_within : (rows : Rows) → free_place rows ≤ length rows
free_within [] = omega arith
free_within (None ∷ rows) = omega arith
free_within (Some e ∷ rows) = (let i = free_within rows in omega (arith, i))

pub least_is : (rows : Rows) (n : ℕ) → row_at rows n ≡ None → ((k : ℕ) → k < n → IsSome (row_at rows k)) → n ≡ free_place rows
least_is [] zero e f = refl
least_is [] (suc n) e f = clash (f zero (omega arith)) refl
least_is (None ∷ rows) zero e f = refl
least_is (None ∷ rows) (suc n) e f = clash (f zero (omega arith)) refl
least_is (Some d ∷ rows) zero e f = absurd (none_some d (sym e))
least_is (Some d ∷ rows) (suc n) e f = (let i = least_is rows n e (λ k l. f (suc k) (omega (arith, l))) in omega (arith, i))

-- how many documents there are: less than the places where one is free
pub few : (n : ℕ) (rows : Rows) → length (places_from is_any n rows) ≤ length rows
few n [] = omega arith
few n (None ∷ rows) = (let i = few (suc n) rows in omega (arith, i))
few n (Some d ∷ rows) = (let i = few (suc n) rows in omega (arith, i))

pub fewer : (n : ℕ) (rows : Rows) → free_place rows < length rows → length (places_from is_any n rows) < length rows
fewer n [] l = absurd (omega (arith, l))
fewer n (None ∷ rows) l = (let i = few (suc n) rows in omega (arith, i))
fewer n (Some d ∷ rows) l = (let i = fewer (suc n) rows (omega (arith, l)) in omega (arith, i))

pub full : (n : ℕ) (rows : Rows) → length rows ≤ free_place rows → length (places_from is_any n rows) ≡ length rows
full n [] l = refl
full n (None ∷ rows) l = absurd (omega (arith, l))
full n (Some d ∷ rows) l = ap suc (full (suc n) rows (omega (arith, l)))

-- ---- documents by their ids

pub lacks : (id : List ℕ) (rows : Rows) → ((n : ℕ) → is_of id (row_at rows n) ≡ true → ⊥) → has_row id rows ≡ false
lacks id [] f = refl
lacks id (r ∷ rows) f = by_test (is_of id r) refl (lacks id rows (λ n. f (suc n)))
  where
    by_test : (t : Bool) → is_of id r ≡ t → has_row id rows ≡ false → (t || has_row id rows) ≡ false
    by_test true e i = absurd (f zero e)
    by_test false e i = i

pub lacked : (id : List ℕ) (rows : Rows) → has_row id rows ≡ false → (n : ℕ) → is_of id (row_at rows n) ≡ true → ⊥
lacked id [] h n e = clash e refl
lacked id (r ∷ rows) h n e = by_test (is_of id r) refl h n e (lacked id rows)
  where
    by_test : (t : Bool) → is_of id r ≡ t → (t || has_row id rows) ≡ false → (n : ℕ) → is_of id (row_at (r ∷ rows) n) ≡ true → (has_row id rows ≡ false → (n : ℕ) → is_of id (row_at rows n) ≡ true → ⊥) → ⊥
    by_test true s j n e ih = clash refl j
    by_test false s j zero e ih = clash e s
    by_test false s j (suc n) e ih = ih j n e

pub has_at : (id : List ℕ) (rows : Rows) (n : ℕ) → is_of id (row_at rows n) ≡ true → has_row id rows ≡ true
has_at id rows n e = by_test (has_row id rows) refl
  where
    by_test : (t : Bool) → has_row id rows ≡ t → t ≡ true
    by_test true h = refl
    by_test false h = absurd (lacked id rows h n e)

-- where no document has the id, none goes
pub without_none : (id : List ℕ) (rows : Rows) → has_row id rows ≡ false → without id rows ≡ rows
without_none id [] h = refl
without_none id (r ∷ rows) h = by_test (is_of id r) h (without_none id rows)
  where
    by_test : (t : Bool) → (t || has_row id rows) ≡ false → (has_row id rows ≡ false → without id rows ≡ rows) → cond t None r ∷ without id rows ≡ r ∷ rows
    by_test true k ih = clash refl k
    by_test false k ih = ap (λ ys. r ∷ ys) (ih k)

replaced_none : (d : Contents) (rows : Rows) → has_row d.id rows ≡ false → replaced d rows ≡ rows
replaced_none d [] h = refl
replaced_none d (r ∷ rows) h = by_test (is_of d.id r) h (replaced_none d rows)
  where
    by_test : (t : Bool) → (t || has_row d.id rows) ≡ false → (has_row d.id rows ≡ false → replaced d rows ≡ rows) → cond t (Some d) r ∷ replaced d rows ≡ r ∷ rows
    by_test true k ih = clash refl k
    by_test false k ih = ap (λ ys. r ∷ ys) (ih k)

rest_lacks : (id : List ℕ) (e : Contents) (rows : Rows) → AreDistinct (Some e ∷ rows) → bytes_eq e.id id ≡ true → has_row id rows ≡ false
rest_lacks id e rows h s = subst (λ x. has_row x rows ≡ false) (same_id e.id id s) h.0

behind : (r : Option Contents) (rows : Rows) → AreDistinct (r ∷ rows) → AreDistinct rows
behind None rows h = h
behind (Some e) rows h = h.1

first_other : (id : List ℕ) (r : Option Contents) (rows : Rows) (n : ℕ) → AreDistinct (r ∷ rows) → is_of id (row_at rows n) ≡ true → is_of id r ≡ false
first_other id None rows n h e = refl
first_other id (Some d) rows n h e = by_test (bytes_eq d.id id) refl
  where
    by_test : (t : Bool) → bytes_eq d.id id ≡ t → t ≡ false
    by_test true s = absurd (lacked id rows (rest_lacks id d rows h s) n e)
    by_test false s = refl

-- the document of an id goes, or another comes, at the place that it has
pub without_is : (id : List ℕ) (rows : Rows) (n : ℕ) → AreDistinct rows → is_of id (row_at rows n) ≡ true → without id rows ≡ set_at n None rows
without_is id [] n h e = clash e refl
without_is id (None ∷ rows) zero h e = clash e refl
without_is id (Some d ∷ rows) zero h e = ap₂ (λ t ys. cond t None (Some d) ∷ ys) e (without_none id rows (rest_lacks id d rows h e))
without_is id (r ∷ rows) (suc n) h e = ap₂ (λ t ys. cond t None r ∷ ys) (first_other id r rows n h e) (without_is id rows n (behind r rows h) e)

pub replaced_is : (d : Contents) (rows : Rows) (n : ℕ) → AreDistinct rows → is_of d.id (row_at rows n) ≡ true → replaced d rows ≡ set_at n (Some d) rows
replaced_is d [] n h e = clash e refl
replaced_is d (None ∷ rows) zero h e = clash e refl
replaced_is d (Some c ∷ rows) zero h e = ap₂ (λ t ys. cond t (Some d) (Some c) ∷ ys) e (replaced_none d rows (rest_lacks d.id c rows h e))
replaced_is d (r ∷ rows) (suc n) h e = ap₂ (λ t ys. cond t (Some d) r ∷ ys) (first_other d.id r rows n h e) (replaced_is d rows n (behind r rows h) e)
