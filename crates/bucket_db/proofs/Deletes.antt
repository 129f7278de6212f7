-- A list whose first rows have changed already.
use Rattle.std.proofs.Common.{◌≡◌, ℕ, zero, suc, ◌<◌, List, [], ◌∷◌, ◌++◌, map, take, drop, length, get_or, refl, sym, ap, ◌∙◌, arith}
use Rattle.std.specs.Prelude.{slice_set}
use Rattle.std.proofs.Math.Seq.{take-append_seam}
use Rattle.bucket_ids.specs.Buckets.{Low}
use Rattle.bucket_db.specs.Changes.{without_delete}
use Rattle.bucket_db.specs.Rows.{buckets_of}
use Rattle.bucket_db.specs.declared.row.Row.{Row}

-- the rows before a place have changed
abbrev pub changed_before : (Row → Row) → ℕ → List Row → List Row
changed_before f at [] = []
changed_before f zero (r ∷ rows) = r ∷ rows
changed_before f (suc at) (r ∷ rows) = f r ∷ changed_before f at rows

pub length_changed : (f : Row → Row) (at : ℕ) (rows : List Row) → length (changed_before f at rows) ≡ length rows
length_changed f at [] = refl
length_changed f zero (r ∷ rows) = refl
length_changed f (suc at) (r ∷ rows) = ap suc (length_changed f at rows)

pub none_changed : (f : Row → Row) (rows : List Row) → changed_before f 0 rows ≡ rows
none_changed f [] = refl
none_changed f (r ∷ rows) = refl

pub all_changed : (f : Row → Row) (rows : List Row) → changed_before f (length rows) rows ≡ map f rows
all_changed f [] = refl
all_changed f (r ∷ rows) = ap (λ rs. f r ∷ rs) (all_changed f rows)

-- the row of the place changes too
pub one_changed : (f : Row → Row) (at : ℕ) (rows : List Row) (x : Row) → at < length rows → x ≡ get_or (changed_before f at rows) at x
    → slice_set (changed_before f at rows) at (f x) ≡ changed_before f (suc at) rows
one_changed f at [] x lt is = absurd (omega arith)
one_changed f zero (r ∷ rows) x lt is = ap (λ y. f y ∷ rows) is ∙ sym (ap (λ rs. f r ∷ rs) (none_changed f rows))
one_changed f (suc at) (r ∷ rows) x lt is = ap (λ rs. f r ∷ rs) (one_changed f at rows x (omega arith) is)

-- rows without a Delete have their buckets still
pub buckets_without : (bucket : Low) (node : ℕ) (rows : List Row) → buckets_of (map (without_delete bucket node) rows) ≡ buckets_of rows
buckets_without bucket node [] = refl
buckets_without bucket node (r ∷ rows) = ap (λ bs. r.bucket ∷ bs) (buckets_without bucket node rows)

-- a slice that is written as a whole is what the list is then
pub written_whole : (new old : List Row) (size : ℕ) → length new ≡ size → take size (new ++ drop (length new) old) ≡ new
written_whole new old size same = ap (λ k. take k (new ++ drop (length new) old)) (sym same) ∙ take-append_seam new (drop (length new) old)
