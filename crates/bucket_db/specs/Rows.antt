-- The rows of a lane: a partition of its keys into buckets, in rising number.
use Rattle.std.specs.Prelude.{◌≡◌, ℕ, Bool, ◌^◌, ◌<◌, List, Option, map, refl, if◌then◌else◌}
use Rattle.std.specs.List.{AllByRecursion, count_by}
use Rattle.std.specs.List.Sorted.{IsStrictlyIncreasing}
use Rattle.std.specs.Coded.{Coded, code_by, coded×, coded_ℕ, coded_bool, coded_list, coded_option}
use Rattle.bucket_ids.specs.Buckets.{Low, IsBucket, has_key}
use Rattle.bucket_ids.specs.Printed.{number_of}
use Rattle.bucket_db.specs.declared.row.Deleting.{Deleting}
use Rattle.bucket_db.specs.declared.row.Row.{Row}

-- a lane's bucket and its rows
pub record Rows : Type 0 where
  pub lane : Low
  pub rows : List Row

abbrev pub low_code : Coded Low
low_code = code_by (ℕ × ℕ) (coded× coded_ℕ coded_ℕ) (λ b. (b.bits, b.low))
    (λ p. record { bits = p.0; low = p.1 }) (λ _. refl)

abbrev pub deleting_code : Coded Deleting
deleting_code = code_by (Low × (ℕ × ℕ)) (coded× low_code (coded× coded_ℕ coded_ℕ))
    (λ d. (d.bucket, (d.node, d.serial)))
    (λ p. record { bucket = p.0; node = p.1.0; serial = p.1.1 }) (λ _. refl)

abbrev pub row_code : Coded Row
row_code = code_by (Low × (ℕ × (Option ℕ × (Bool × Option Deleting))))
    (coded× low_code (coded× coded_ℕ (coded× (coded_option coded_ℕ) (coded× coded_bool (coded_option deleting_code)))))
    (λ r. (r.bucket, (r.complete, (r.active, (r.accepted, r.deleting)))))
    (λ p. record { bucket = p.0; complete = p.1.0; active = p.1.1.0; accepted = p.1.1.1.0; deleting = p.1.1.1.1 }) (λ _. refl)

abbrev pub rows_code : Coded Rows
rows_code = code_by (Low × List Row) (coded× low_code (coded_list row_code)) (λ d. (d.lane, d.rows))
    (λ p. record { lane = p.0; rows = p.1 }) (λ _. refl)

-- the buckets of rows
abbrev pub buckets_of : List Row → List Low
buckets_of = map (λ r. r.bucket)

-- all are buckets
abbrev pub AreBuckets : List Low → Type 0
AreBuckets = AllByRecursion IsBucket

-- each key of the lane lies in exactly one of the buckets, and no other key lies in any
abbrev pub IsPartition : Low → List Low → Type 0
IsPartition lane buckets = (key : ℕ) → key < 2 ^ 58
    → count_by (λ b. has_key b key) buckets ≡ (if has_key lane key then 1 else 0)

-- the numbers of the buckets rise, each above the one before
abbrev pub AreRising : List Low → Type 0
AreRising buckets = IsStrictlyIncreasing (map number_of buckets)

-- the rows of a lane
pub record AreRows (lane : Low) (buckets : List Low) : Type 0 where
  pub bucket : IsBucket lane
  pub valid : AreBuckets buckets
  pub partition : IsPartition lane buckets
  pub rising : AreRising buckets
