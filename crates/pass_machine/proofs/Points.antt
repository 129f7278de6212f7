-- Where the rows end that come first.
use Rattle.std.proofs.Common.{◌≡◌, ◌∙◌, ◌<◌, ◌≤◌, ℕ, Bool, true, false, List, None, length, refl, sym, arith, nat_lt}
use Rattle.std.specs.List.{prefix_len}
use Rattle.std.specs.List.Sorted.{IsPartitionPoint}
use Rattle.std.proofs.lemmas.List.Sums.{prefix_len_passes, prefix_len_stops, prefix_len-le-length}
use Rattle.std.proofs.lemmas.Bool.Decides.{nat_tests}
use mathlib.Core.Bool.{true≢false}
use Rattle.bucket_db.specs.declared.row.Row.{Row}

abbrev some_row : Row
some_row = record { bucket = record { bits = 0; low = 0 }; complete = 0; active = None; accepted = false; deleting = None }

pub point_is : (p : Row → Bool) (xs : List Row) (i : ℕ) → i ≤ length xs → IsPartitionPoint (λ y. p y ≡ true) (λ y. p y ≡ false) xs i → i ≡ prefix_len p xs
point_is p xs i within point = by_order (nat_lt i (prefix_len p xs)) (nat_lt (prefix_len p xs) i) refl refl
  where
    by_order : (x y : Bool) → nat_lt i (prefix_len p xs) ≡ x → nat_lt (prefix_len p xs) i ≡ y → i ≡ prefix_len p xs
    by_order true y e f =
        let less : i < prefix_len p xs = grind (arith, nat_tests) in
        let most = prefix_len-le-length p xs in
        absurd (true≢false (sym (prefix_len_passes p xs i some_row less) ∙ point.1 i some_row (omega arith) (omega (arith, less, most))))
    by_order false true e f =
        let more : prefix_len p xs < i = grind (arith, nat_tests) in
        absurd (true≢false (sym (point.0 (prefix_len p xs) some_row (omega arith) more) ∙ prefix_len_stops p xs some_row (omega (arith, more, within))))
    by_order false false e f = grind (arith, nat_tests)
