-- The lowest key of a row lies in its lane.
use Rattle.std.proofs.Common.{◌≡◌, ◌≤◌, ◌^◌, ◌<◌, ℕ, Bool, true, false, List, Option, None, Some, IsSome, IfSome, slice_get, if◌then◌else◌, refl, sym, subst, arith}
use Rattle.std.specs.List.{count_by}
use Rattle.bucket_ids.specs.Buckets.{Low, has_key}
use Rattle.bucket_db.specs.Rows.{Rows, AreRows, buckets_of}
use Rattle.bucket_db.specs.declared.row.Row.{Row}
use Rattle.proof_basics.proofs.Lists.{count_at}
use Rattle.bucket_db.proofs.Inside.{key_in, low_below, has_low}
use Rattle.bucket_db.proofs.RowLists.{bucket_at, valid_at}
use Rattle.distributor_part.specs.Parts.{rows_of}
use Rattle.round_keeping.specs.RoundRuns.{LowIsThere}

counted : (t : Bool) (n : ℕ) → 1 ≤ n → n ≡ (if t then 1 else 0) → t ≡ true
counted true n some is = refl
counted false n some is = absurd (omega (arith, some, is))

pub low-there : (lane : Low) (rows : List Row) (at : ℕ) (row : Row) → AreRows lane (buckets_of rows) → slice_get rows at ≡ Some row → LowIsThere lane row.bucket
low-there lane rows at row h found =
    let b = row.bucket in
    let here = bucket_at rows at row found in
    let ok = valid_at (buckets_of rows) at b h.valid here in
    let small : b.low < 2 ^ 58 = low_below b ok in
    let own = has_low b ok in
    let some : 1 ≤ count_by (λ x. has_key x b.low) (buckets_of rows) = count_at (λ x. has_key x b.low) (buckets_of rows) at b here own in
    record {
      inside = (small, key_in lane b.low (counted (has_key lane b.low) (count_by (λ x. has_key x b.low) (buckets_of rows)) some (h.partition b.low small)));
      own = own;
    }

-- the rows that a part shows are those of its lane
pub whole-rows : (lane : Low) (o : Option Rows) (rows : List Row) → rows ≡ rows_of o → IsSome o → IfSome o (λ d. AreRows lane (buckets_of d.rows)) → AreRows lane (buckets_of rows)
whole-rows lane None rows is some whole = let none : ◌≡◌ {A = Bool} false true = some in absurd (cc)
whole-rows lane (Some d) rows is some whole = subst (λ (xs : List Row). AreRows lane (buckets_of xs)) (sym is) whole
