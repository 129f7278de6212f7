-- A sweep through the rows in rising number splits all that have too many documents.
use Rattle.std.proofs.Common.{◌≡◌, ℕ, zero, suc, ◌+◌, ◌*◌, ◌^◌, ◌<◌, ◌≤◌, nat_lt, List, length, Some, slice_get, arith}
use Rattle.std.specs.List.{remove}
use Rattle.std.proofs.lemmas.List.Edits.{length-remove}
use Rattle.std.proofs.lemmas.Option.{slice_get_within}
use Rattle.std.proofs.lemmas.Bool.Decides.{nat_tests}
use Rattle.bucket_ids.specs.Buckets.{Low, IsBucket}
use Rattle.bucket_ids.specs.Printed.{number_of}
use Rattle.proof_basics.proofs.Lists.{one_if}
use Rattle.bucket_db.proofs.Inside.{low_below}
use Rattle.pass_model.specs.Rows.{Settings, Row}
use Rattle.pass_model.specs.Passes.{World, AllRows, Splits, NoSplit, MoreSplits, NotFull, second_nodes, first_row, second_row}
use Rattle.pass_model.specs.Sweeps.{Rises, with_row, fewer, Before, after_split, AreSplitBefore}
use Rattle.pass_model.proofs.Sweeping.{among-removed, among-placed, before-next, before-mono, before-removed, before-placed, length-placed, before-all, rises-before, fewer-placed, fewer-removed}

-- more bits make a greater number
pub above : (b c : Low) → IsBucket b → b.bits + 1 ≤ c.bits → number_of b < number_of c
above b c ok more = steps b.bits c.bits b.low c.low (2 ^ 58) (low_below b ok) more
  where
    steps : (i j l m w : ℕ) → l < w → i + 1 ≤ j → i * w + l < j * w + m
    steps i zero l m w less le = absurd (omega arith)
    steps zero (suc j) l m w less le = omega (arith, less)
    steps (suc i) (suc j) l m w less le = let ih = steps i j l m w less (omega arith) in omega (arith, ih)

module _ (s : Settings) where
  pub splits-then : (a b c : World) → Splits s a b → Splits s b c → Splits s a c
  splits-then a b c (NoSplit w) m = m
  splits-then a b c (MoreSplits ns rows rest one two r end among few full f g more) m = MoreSplits ns rows rest one two r c among few full f g (splits-then (record { nodes = second_nodes s r ns; rows = two }) b c more m)

  -- a row that isn't full stays, and the next one comes
  pub split-stays : (before w : World) (at : ℕ) (r : Row) → AreSplitBefore s before w at → slice_get w.rows at ≡ Some r → NotFull s r → AreSplitBefore s before w (suc at)
  split-stays before w at r a found fits = record { splits = a.splits; not_full = before-next (NotFull s) at w.rows r found fits a.not_full }

  module _ (w : World) (at : ℕ) (r : Row) (found : slice_get w.rows at ≡ Some r) where
    abbrev one : Row
    one = first_row s r w.nodes

    abbrev two : Row
    two = second_row s r w.nodes

    abbrev rest : List Row
    rest = remove w.rows at

    -- of the rows of its bits there is one less
    pub split-fewer : suc (fewer (r.bucket.bits + 1) (after_split s r at w).rows) ≡ fewer (r.bucket.bits + 1) w.rows
    split-fewer =
        let gone = fewer-removed (r.bucket.bits + 1) w.rows at r found in
        let come = fewer-placed (r.bucket.bits + 1) one rest in
        let more = fewer-placed (r.bucket.bits + 1) two (with_row one rest) in
        let counts : one_if (nat_lt r.bucket.bits (r.bucket.bits + 1)) ≡ 1 = less r.bucket.bits in
        let out : one_if (nat_lt (r.bucket.bits + 1) (r.bucket.bits + 1)) ≡ 0 = same (r.bucket.bits + 1) in
        omega (arith, gone, come, more, counts, out)
      where
        less : (k : ℕ) → one_if (nat_lt k (k + 1)) ≡ 1
        less k = grind (arith, nat_tests)

        same : (k : ℕ) → one_if (nat_lt k k) ≡ 0
        same k = grind (arith, nat_tests)

    module _ (few : r.bucket.bits < 58) where
      split-once : s.split_at < r.documents → Splits s w (after_split s r at w)
      split-once full = MoreSplits w.nodes w.rows rest (with_row one rest) (with_row two (with_row one rest)) r (after_split s r at w)
          (among-removed w.rows at r found) few full (among-placed one rest) (among-placed two (with_row one rest)) (NoSplit (after_split s r at w))

      -- and its halves stand behind all that were looked at
      split-before : IsBucket r.bucket → Rises 0 w.rows → Before (NotFull s) at w.rows → Before (NotFull s) at (after_split s r at w).rows
      split-before ok rises b =
          before-placed (NotFull s) two at (with_row one rest) (longer one rest room)
          (before-placed (λ q. number_of q.bucket < number_of two.bucket) one at rest room (under one (omega arith)) (under two (omega arith)))
          (before-placed (NotFull s) one at rest room (under one (omega arith)) (before-removed (NotFull s) at w.rows b))
        where
          within : at < length w.rows
          within = slice_get_within w.rows at r found

          room : at ≤ length (remove w.rows at)
          room = omega (arith, length-remove w.rows at within, within)

          longer : (x : Row) (rows : List Row) → at ≤ length rows → at ≤ length (with_row x rows)
          longer x rows le = omega (arith, length-placed x rows, le)

          under : (x : Row) → r.bucket.bits + 1 ≤ x.bucket.bits → Before (λ q. number_of q.bucket < number_of x.bucket) at (remove w.rows at)
          under x more = before-removed (λ q. number_of q.bucket < number_of x.bucket) at w.rows
              (before-mono (λ q. number_of q.bucket ≤ number_of r.bucket) (λ q. number_of q.bucket < number_of x.bucket) (λ q le. let up = above r.bucket x.bucket ok more in omega (arith, le, up)) at w.rows (rises-before 0 at w.rows r rises found))

      pub split-goes-on : (before : World) → IsBucket r.bucket → Rises 0 w.rows → s.split_at < r.documents → AreSplitBefore s before w at → AreSplitBefore s before (after_split s r at w) at
      split-goes-on before ok rises full a = record { splits = splits-then before w (after_split s r at w) a.splits (split-once full); not_full = split-before ok rises a.not_full }

  -- once all places are behind, no row is full
  pub split-ends : (before w : World) (at : ℕ) → AreSplitBefore s before w at → length w.rows ≤ at → Splits s before w × AllRows (NotFull s) w.rows
  split-ends before w at a le = (a.splits, before-all (NotFull s) at w.rows le a.not_full)
