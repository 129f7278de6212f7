-- Lists of rows without common keys, and which row has a key after a row comes, goes or changes.
use Rattle.std.proofs.Common.{◌≡◌, ℕ, zero, suc, ◌^◌, ◌<◌, Bool, true, false, nat_lt, List, [], ◌∷◌, map, cond, Option, Some, None, refl, sym, ap, ◌∙◌, subst, slice_get}
use Rattle.std.specs.List.{filter, remove}
use Rattle.bucket_ids.specs.Buckets.{Low}
use Rattle.bucket_ids.specs.Printed.{number_of}
use Rattle.bucket_db.specs.Rows.{buckets_of}
use Rattle.bucket_db.specs.Changes.{with_row, at_row}
use Rattle.bucket_db.specs.declared.row.Row.{Row}
use Rattle.lane_journals.specs.Buckets.{contains}
use Rattle.lane_journals.specs.Readers.{row_in}
use Rattle.lane_journals.specs.Legal.{Parted}
use Rattle.lane_keeping.specs.LaneKeeping.{row_by}
use Rattle.lane_keeping.proofs.Owners.{row_by-bucket, row_by-place}

-- ---- no common keys

-- no two rows have a common key
abbrev pub Apart : List Row → Type 0
Apart [] = Unit {0}
Apart (r ∷ rs) = (r.bucket.low < 2 ^ r.bucket.bits) × ((key : ℕ) → contains r.bucket key ≡ true → row_by key rs ≡ None) × Apart rs

pub left-none : (t : Bool) (r : Row) (o : Option Row) → cond t (Some r) o ≡ None → (t ≡ false) × (o ≡ None)
left-none true r o h = cc
left-none false r o h = (refl, h)

none-bucket : (key : ℕ) (rs : List Row) → row_by key rs ≡ None → row_in key (buckets_of rs) ≡ None
none-bucket key [] h = refl
none-bucket key (r ∷ rs) h =
    let n = left-none (contains r.bucket key) r (row_by key rs) h in
    ap (λ (t : Bool). cond t (Some r.bucket) (row_in key (buckets_of rs))) n.0 ∙ none-bucket key rs n.1

bucket-none : (key : ℕ) (rs : List Row) → row_in key (buckets_of rs) ≡ None → row_by key rs ≡ None
bucket-none key rs h = by_row (row_by key rs) refl
  where
    by_row : (o : Option Row) → row_by key rs ≡ o → row_by key rs ≡ None
    by_row None e = e
    by_row (Some r) e = absurd (let w : ◌≡◌ {A = Option Low} None (Some r.bucket) = sym h ∙ row_by-bucket key rs r e in cc)

pub apart-of : (rs : List Row) → Parted (buckets_of rs) → Apart rs
apart-of [] p = tt
apart-of (r ∷ rs) p = (p.0, (λ key i. bucket-none key rs (p.1 key i)), apart-of rs p.2)

pub parted-of : (rs : List Row) → Apart rs → Parted (buckets_of rs)
parted-of [] a = tt
parted-of (r ∷ rs) a = (a.0, (λ key i. none-bucket key rs (a.1 key i)), parted-of rs a.2)

pub place-row : (rs : List Row) (at : ℕ) (row : Row) → Apart rs → slice_get rs at ≡ Some row → (key : ℕ) → contains row.bucket key ≡ true → row_by key rs ≡ Some row
place-row rs at row a found key i = row_by-place rs at row (parted-of rs a) found key i

pub not-true : (t : Bool) → (t ≡ true → ⊥) → t ≡ false
not-true true h = absurd (h refl)
not-true false h = refl

-- ---- a row that comes

pub come-here : (key : ℕ) (r : Row) (rs : List Row) → contains r.bucket key ≡ true → row_by key rs ≡ None → row_by key (with_row r rs) ≡ Some r
come-here key r [] i h = ap (λ (t : Bool). cond t (Some r) None) i
come-here key r (y ∷ ys) i h =
    let n = left-none (contains y.bucket key) y (row_by key ys) h in
    by_number (nat_lt (number_of y.bucket) (number_of r.bucket)) (come-here key r ys i n.1) n.0
  where
    by_number : (t : Bool) → row_by key (with_row r ys) ≡ Some r → contains y.bucket key ≡ false → row_by key (cond t (y ∷ with_row r ys) (r ∷ y ∷ ys)) ≡ Some r
    by_number true ih off = ap (λ (t : Bool). cond t (Some y) (row_by key (with_row r ys))) off ∙ ih
    by_number false ih off = ap (λ (t : Bool). cond t (Some r) (row_by key (y ∷ ys))) i

pub come-other : (key : ℕ) (r : Row) (rs : List Row) → contains r.bucket key ≡ false → row_by key (with_row r rs) ≡ row_by key rs
come-other key r [] out = ap (λ (t : Bool). cond t (Some r) None) out
come-other key r (y ∷ ys) out = by_number (nat_lt (number_of y.bucket) (number_of r.bucket)) (come-other key r ys out)
  where
    by_number : (t : Bool) → row_by key (with_row r ys) ≡ row_by key ys → row_by key (cond t (y ∷ with_row r ys) (r ∷ y ∷ ys)) ≡ row_by key (y ∷ ys)
    by_number true ih = ap (λ (o : Option Row). cond (contains y.bucket key) (Some y) o) ih
    by_number false ih = ap (λ (t : Bool). cond t (Some r) (row_by key (y ∷ ys))) out

pub come-apart : (r : Row) (rs : List Row) → Apart rs → r.bucket.low < 2 ^ r.bucket.bits → ((key : ℕ) → contains r.bucket key ≡ true → row_by key rs ≡ None) → Apart (with_row r rs)
come-apart r [] a fits free = (fits, (λ key i. refl), tt)
come-apart r (y ∷ ys) a fits free = by_number (nat_lt (number_of y.bucket) (number_of r.bucket)) (come-apart r ys a.2 fits (λ key i. (left-none (contains y.bucket key) y (row_by key ys) (free key i)).1))
  where
    out : (key : ℕ) → contains y.bucket key ≡ true → contains r.bucket key ≡ false
    out key i = not-true (contains r.bucket key) (λ j. let n = (left-none (contains y.bucket key) y (row_by key ys) (free key j)).0 in let w : true ≡ false = sym i ∙ n in cc)

    by_number : (t : Bool) → Apart (with_row r ys) → Apart (cond t (y ∷ with_row r ys) (r ∷ y ∷ ys))
    by_number true ih = (a.0, (λ key i. come-other key r ys (out key i) ∙ a.1 key i), ih)
    by_number false ih = (fits, free, a)

-- ---- rows that go

gone-none : (key : ℕ) (rs : List Row) (at : ℕ) → row_by key rs ≡ None → row_by key (remove rs at) ≡ None
gone-none key [] zero h = refl
gone-none key [] (suc at) h = refl
gone-none key (r ∷ rs) zero h = (left-none (contains r.bucket key) r (row_by key rs) h).1
gone-none key (r ∷ rs) (suc at) h =
    let n = left-none (contains r.bucket key) r (row_by key rs) h in
    ap (λ (t : Bool). cond t (Some r) (row_by key (remove rs at))) n.0 ∙ gone-none key rs at n.1

pub gone-apart : (rs : List Row) (at : ℕ) → Apart rs → Apart (remove rs at)
gone-apart [] zero a = tt
gone-apart [] (suc at) a = tt
gone-apart (r ∷ rs) zero a = a.2
gone-apart (r ∷ rs) (suc at) a = (a.0, (λ key i. gone-none key rs at (a.1 key i)), gone-apart rs at a.2)

pub gone-here : (key : ℕ) (rs : List Row) (at : ℕ) (row : Row) → Apart rs → slice_get rs at ≡ Some row → contains row.bucket key ≡ true → row_by key (remove rs at) ≡ None
gone-here key [] at row a found i = cc
gone-here key (r ∷ rs) zero row a found i = let same : r ≡ row = cc in a.1 key (subst (λ (x : Row). contains x.bucket key ≡ true) (sym same) i)
gone-here key (r ∷ rs) (suc at) row a found i = by_test (contains r.bucket key) refl (gone-here key rs at row a.2 found i)
  where
    by_test : (t : Bool) → contains r.bucket key ≡ t → row_by key (remove rs at) ≡ None → cond t (Some r) (row_by key (remove rs at)) ≡ None
    by_test true e ih = let n = a.1 key e in let w : ◌≡◌ {A = Option Row} None (Some row) = sym n ∙ place-row rs at row a.2 found key i in absurd (nothing w)
      where
        nothing : ◌≡◌ {A = Option Row} None (Some row) → ⊥
        nothing w = cc
    by_test false e ih = ih

pub gone-other : (key : ℕ) (rs : List Row) (at : ℕ) (row : Row) → slice_get rs at ≡ Some row → contains row.bucket key ≡ false → row_by key (remove rs at) ≡ row_by key rs
gone-other key [] at row found out = cc
gone-other key (r ∷ rs) zero row found out =
    let same : r ≡ row = cc in
    sym (ap (λ (t : Bool). cond t (Some r) (row_by key rs)) (ap (λ (x : Row). contains x.bucket key) same ∙ out))
gone-other key (r ∷ rs) (suc at) row found out = ap (λ (o : Option Row). cond (contains r.bucket key) (Some r) o) (gone-other key rs at row found out)

-- ---- rows that pass a test

kept-none : (key : ℕ) (f : Row → Bool) (rs : List Row) → row_by key rs ≡ None → row_by key (filter f rs) ≡ None
kept-none key f [] h = refl
kept-none key f (r ∷ rs) h = let n = left-none (contains r.bucket key) r (row_by key rs) h in by_test (f r) n.0 (kept-none key f rs n.1)
  where
    by_test : (t : Bool) → contains r.bucket key ≡ false → row_by key (filter f rs) ≡ None → row_by key (cond t (r ∷ filter f rs) (filter f rs)) ≡ None
    by_test true off ih = ap (λ (t : Bool). cond t (Some r) (row_by key (filter f rs))) off ∙ ih
    by_test false off ih = ih

pub kept-apart : (f : Row → Bool) (rs : List Row) → Apart rs → Apart (filter f rs)
kept-apart f [] a = tt
kept-apart f (r ∷ rs) a = by_test (f r) (kept-apart f rs a.2)
  where
    by_test : (t : Bool) → Apart (filter f rs) → Apart (cond t (r ∷ filter f rs) (filter f rs))
    by_test true ih = (a.0, (λ key i. kept-none key f rs (a.1 key i)), ih)
    by_test false ih = ih

-- the row of the key doesn't pass
pub kept-here : (key : ℕ) (f : Row → Bool) (rs : List Row) (row : Row) → Apart rs → row_by key rs ≡ Some row → f row ≡ false → row_by key (filter f rs) ≡ None
kept-here key f [] row a h fails = refl
kept-here key f (r ∷ rs) row a h fails = by_key (contains r.bucket key) refl h (kept-here key f rs row a.2)
  where
    by_key : (t : Bool) → contains r.bucket key ≡ t → cond t (Some r) (row_by key rs) ≡ Some row → (row_by key rs ≡ Some row → f row ≡ false → row_by key (filter f rs) ≡ None) → row_by key (cond (f r) (r ∷ filter f rs) (filter f rs)) ≡ None
    by_key true e h ih =
        let same : r ≡ row = cc in
        ap (λ (t : Bool). row_by key (cond t (r ∷ filter f rs) (filter f rs))) (ap f same ∙ fails) ∙ kept-none key f rs (a.1 key e)
    by_key false e h ih = by_test (f r)
      where
        by_test : (t : Bool) → row_by key (cond t (r ∷ filter f rs) (filter f rs)) ≡ None
        by_test true = ap (λ (t : Bool). cond t (Some r) (row_by key (filter f rs))) e ∙ ih h fails
        by_test false = ih h fails

-- each row with the key passes
pub kept-other : (key : ℕ) (f : Row → Bool) (rs : List Row) → ((r : Row) → contains r.bucket key ≡ true → f r ≡ true) → row_by key (filter f rs) ≡ row_by key rs
kept-other key f [] all = refl
kept-other key f (r ∷ rs) all = by_key (contains r.bucket key) refl (kept-other key f rs all)
  where
    by_key : (t : Bool) → contains r.bucket key ≡ t → row_by key (filter f rs) ≡ row_by key rs → row_by key (cond (f r) (r ∷ filter f rs) (filter f rs)) ≡ cond t (Some r) (row_by key rs)
    by_key true e ih =
        ap (λ (t : Bool). row_by key (cond t (r ∷ filter f rs) (filter f rs))) (all r e) ∙ ap (λ (t : Bool). cond t (Some r) (row_by key (filter f rs))) e
    by_key false e ih = by_test (f r)
      where
        by_test : (t : Bool) → row_by key (cond t (r ∷ filter f rs) (filter f rs)) ≡ row_by key rs
        by_test true = ap (λ (t : Bool). cond t (Some r) (row_by key (filter f rs))) e ∙ ih
        by_test false = ih

-- ---- rows that change, each in its bucket

module _ (f : Row → Row) (same : (r : Row) → (f r).bucket ≡ r.bucket) where
  pub changed-buckets : (at : ℕ) (rs : List Row) → buckets_of (at_row at f rs) ≡ buckets_of rs
  changed-buckets at [] = refl
  changed-buckets zero (r ∷ rs) = ap (λ (b : Low). b ∷ buckets_of rs) (same r)
  changed-buckets (suc at) (r ∷ rs) = ap (λ (bs : List Low). r.bucket ∷ bs) (changed-buckets at rs)

  changed-place : (at : ℕ) (rs : List Row) (row : Row) → slice_get rs at ≡ Some row → slice_get (at_row at f rs) at ≡ Some (f row)
  changed-place at [] row h = cc
  changed-place zero (r ∷ rs) row h = let one : r ≡ row = cc in ap (λ (x : Row). Some (f x)) one
  changed-place (suc at) (r ∷ rs) row h = changed-place at rs row h

  pub changed-other : (key at : ℕ) (rs : List Row) (row : Row) → slice_get rs at ≡ Some row → contains row.bucket key ≡ false → row_by key (at_row at f rs) ≡ row_by key rs
  changed-other key at [] row h out = refl
  changed-other key zero (r ∷ rs) row h out =
      let one : r ≡ row = cc in
      let off : contains r.bucket key ≡ false = ap (λ (x : Row). contains x.bucket key) one ∙ out in
      ap (λ (t : Bool). cond t (Some (f r)) (row_by key rs)) (ap (λ (b : Low). contains b key) (same r) ∙ off) ∙ sym (ap (λ (t : Bool). cond t (Some r) (row_by key rs)) off)
  changed-other key (suc at) (r ∷ rs) row h out = ap (λ (o : Option Row). cond (contains r.bucket key) (Some r) o) (changed-other key at rs row h out)

  pub changed-apart : (at : ℕ) (rs : List Row) → Apart rs → Apart (at_row at f rs)
  changed-apart at rs a = apart-of (at_row at f rs) (subst Parted (sym (changed-buckets at rs)) (parted-of rs a))

  pub changed-here : (key at : ℕ) (rs : List Row) (row : Row) → Apart rs → slice_get rs at ≡ Some row → contains row.bucket key ≡ true → row_by key (at_row at f rs) ≡ Some (f row)
  changed-here key at rs row a h i = place-row (at_row at f rs) at (f row) (changed-apart at rs a) (changed-place at rs row h) key (ap (λ (b : Low). contains b key) (same row) ∙ i)

  all-buckets : (rs : List Row) → buckets_of (map f rs) ≡ buckets_of rs
  all-buckets [] = refl
  all-buckets (r ∷ rs) = ap (λ (b : Low). b ∷ buckets_of (map f rs)) (same r) ∙ ap (λ (bs : List Low). r.bucket ∷ bs) (all-buckets rs)

  pub all-apart : (rs : List Row) → Apart rs → Apart (map f rs)
  all-apart rs a = apart-of (map f rs) (subst Parted (sym (all-buckets rs)) (parted-of rs a))

  -- the row of the key in the list of all changed rows
  abbrev pub after-all : Option Row → Option Row
  after-all None = None
  after-all (Some r) = Some (f r)

  pub all-row : (key : ℕ) (rs : List Row) → row_by key (map f rs) ≡ after-all (row_by key rs)
  all-row key [] = refl
  all-row key (r ∷ rs) = ap (λ (t : Bool). cond t (Some (f r)) (row_by key (map f rs))) (ap (λ (b : Low). contains b key) (same r)) ∙ by_key (contains r.bucket key) (all-row key rs)
    where
      by_key : (t : Bool) → row_by key (map f rs) ≡ after-all (row_by key rs) → cond t (Some (f r)) (row_by key (map f rs)) ≡ after-all (cond t (Some r) (row_by key rs))
      by_key true ih = refl
      by_key false ih = ih
