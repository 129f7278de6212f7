-- Rows in rising number have rising bits.
use Rattle.std.proofs.Common.{◌≡◌, ◌<◌, ℕ, List, Option, None, Some, length, get_or, sym, subst, arith}
use Rattle.std.specs.Prelude.{IfSome}
use Rattle.std.specs.List.Sorted.{IsNonDecreasingBy}
use Rattle.std.proofs.lemmas.List.{get_or-map, length-map}
use Rattle.std.proofs.lemmas.Option.{slice_get-get_or}
use Rattle.bucket_ids.specs.Buckets.{Low, IsBucket}
use Rattle.bucket_ids.specs.Printed.{number_of}
use Rattle.bucket_db.specs.Rows.{AreRows, Rows, buckets_of}
use Rattle.bucket_db.specs.declared.row.Row.{Row}
use Rattle.bucket_db.proofs.Inside.{number_bits}
use Rattle.bucket_db.proofs.RowLists.{rows_rise, rises_of_rising, valid_at}
use Rattle.distributor_part.specs.Parts.{Part, rows_of}

valid_row : (lane : Low) (rows : List Row) → AreRows lane (buckets_of rows) → (k : ℕ) (d : Row) → k < length rows → IsBucket (get_or rows k d).bucket
valid_row lane rows h k d lt =
    subst IsBucket (get_or-map (λ (r : Row). r.bucket) rows k d d.bucket lt)
    (valid_at (buckets_of rows) k _ h.valid (slice_get-get_or (buckets_of rows) k d.bucket (omega (arith, lt, length-map rows (λ (r : Row). r.bucket)))))

pub bits_rise : (lane : Low) (rows : List Row) → AreRows lane (buckets_of rows) → IsNonDecreasingBy (λ r. r.bucket.bits) rows
bits_rise lane rows h i j d le lt =
    number_bits _ _ (valid_row lane rows h i d (omega (arith, le, lt))) (valid_row lane rows h j d lt) (rows_rise rows (rises_of_rising (buckets_of rows) h.rising) i j d le lt)

-- the rows of a part, if it has any
bits-in : (lane : Low) (rows : Option Rows) → IfSome rows (λ d. AreRows lane (buckets_of d.rows)) → IsNonDecreasingBy (λ r. r.bucket.bits) (rows_of rows)
bits-in lane None are = λ i j d le lt. absurd (omega (arith, lt))
bits-in lane (Some rows) are = bits_rise lane rows.rows are

numbers-in : (lane : Low) (rows : Option Rows) → IfSome rows (λ d. AreRows lane (buckets_of d.rows)) → IsNonDecreasingBy (λ r. number_of r.bucket) (rows_of rows)
numbers-in lane None are = λ i j d le lt. absurd (omega (arith, lt))
numbers-in lane (Some rows) are = rows_rise rows.rows (rises_of_rising (buckets_of rows.rows) are.rising)

pub bits_rise_in : (p : Part) → IfSome p.rows (λ d. AreRows p.lane (buckets_of d.rows)) → (xs : List Row) → xs ≡ rows_of p.rows → IsNonDecreasingBy (λ r. r.bucket.bits) xs
bits_rise_in p are xs same = subst (λ (ys : List Row). IsNonDecreasingBy (λ r. r.bucket.bits) ys) (sym same) (bits-in p.lane p.rows are)

pub rows_rise_in : (p : Part) → IfSome p.rows (λ d. AreRows p.lane (buckets_of d.rows)) → (xs : List Row) → xs ≡ rows_of p.rows → IsNonDecreasingBy (λ r. number_of r.bucket) xs
rows_rise_in p are xs same = subst (λ (ys : List Row). IsNonDecreasingBy (λ r. number_of r.bucket) ys) (sym same) (numbers-in p.lane p.rows are)
