-- Turns in which rows are split.
use Rattle.std.proofs.Common.{◌≡◌, ◌&&◌, ◌≤◌, ℕ, suc, Bool, true, false, cond, nat_lt, List, Some, None, slice_get, slice_set, refl, sym, ap, ap₂, ◌∙◌, subst, arith}
use Rattle.std.specs.List.{remove}
use Rattle.bucket_ids.specs.Buckets.{Low, IsBucket, first_child, second_child}
use Rattle.proof_basics.proofs.Tests.{both}
use Rattle.pass_model.specs.Nodes.{Node, split_node}
use Rattle.pass_model.specs.Rows.{Settings, Row, round_node, round_row}
use Rattle.pass_model.specs.Passes.{World, AllRows, NotFull, child_row, split_nodes, first_nodes, first_row, second_nodes, second_row}
use Rattle.pass_model.specs.Resting.{AreSettings}
use Rattle.pass_model.specs.Sweeps.{with_row, after_split}
use Rattle.pass_model.proofs.Lists.{all-among, among-all}
use Rattle.pass_model.proofs.Sweeping.{among-removed, among-placed}
use Rattle.pass_model.proofs.SplitSweeps.{split-stays, split-goes-on, split-ends}
use Rattle.pass_model.specs.Turns.{First, Splitting, SplitTold, SplitFirst, SplitSecond, Settling, stand, told, round_of, place_of, is_full, with_children, split_at_place, split_one, split_told, turn_at}
use Rattle.pass_model.specs.Orders.{ActiveServes, AreInOrder}
use Rattle.pass_model.proofs.Walking.{from_node, from-first, from-told, from-end}
use Rattle.pass_model.proofs.RowLists.{all-at, none-at, get-placed, set-placed, placed-swap}
use Rattle.pass_model.proofs.RoundedRows.{IsRounded, round-rounded, not-serving}
use Rattle.pass_model.proofs.OrderedRows.{valid-rows, order-set, first-below, order-split}
use Rattle.pass_model.proofs.Reached.{IsSplitting, IsSplitOf, Standing}
use Rattle.proof_basics.proofs.Numbers.{lt-of, ge-of}
use Rattle.pass_model.proofs.Standings.{in-row, by-test, by-row}

not-full : (s : Settings) (r : Row) → is_full s r ≡ false → NotFull s r
not-full s r h few = by_test (nat_lt r.bucket.bits 58) (nat_lt s.split_at r.documents) refl refl h
  where
    by_test : (t u : Bool) → nat_lt r.bucket.bits 58 ≡ t → nat_lt s.split_at r.documents ≡ u → (t && u) ≡ false → r.documents ≤ s.split_at
    by_test true true e f h = cc
    by_test true false e f h = ge-of s.split_at r.documents f
    by_test false u e f h = let more = ge-of r.bucket.bits 58 e in absurd (omega (arith, more, few))

module _ (s : Settings) (b : World) where
  module _ (at : ℕ) (w : World) (order : AreInOrder s w.rows) (j : IsSplitting s b at w) where
    splits-end : slice_get w.rows at ≡ None → Standing s b (stand (Settling First 0) w)
    splits-end none =
        let x = split-ends s j.joined w at j.now (none-at w.rows at none) in
        (order, record { from = w; origin = record { joined = j.joined; first = j.first; splits = x.0; not_full = x.1 }; left = refl; rounded = j.rounded })

    splits-row : (r : Row) → slice_get w.rows at ≡ Some r → Standing s b (split_at_place s at w r)
    splits-row r found = by-test (Standing s b) (is_full s r) (stand (SplitTold at r.bucket 0) (record { nodes = w.nodes; rows = with_children at r w.rows })) (stand (Splitting (suc at)) w)
        (λ h. let full = both (nat_lt r.bucket.bits 58) (nat_lt s.split_at r.documents) h in
        let few = lt-of r.bucket.bits 58 full.0 in (
          order-split s w.rows at r found few order,
          (record { before = w; splitting = j; order = order; row = r; found = found; few = few; full = lt-of s.split_at r.documents full.1; bucket = refl }, refl, from-first (split_one s r.bucket) w.nodes),
        ))
        (λ h. (order, record { joined = j.joined; first = j.first; now = split-stays s j.joined w at r j.now found (not-full s r h); rounded = j.rounded }))

    pub splits-next : Standing s b (turn_at s (Splitting at) w)
    splits-next = by-row (Standing s b) (slice_get w.rows at) (stand (Settling First 0) w) (split_at_place s at w) splits-end splits-row

  pub tells-split : AreSettings s → (at : ℕ) (p : Low) (w : World) → AreInOrder s w.rows → (j : IsSplitOf s b at p) → w.rows ≡ with_children at j.row j.before.rows → (k : ℕ) → from_node k (split_one s p) w.nodes ≡ split_nodes s j.row j.before.nodes
      → Standing s b (split_told s at p k w)
  tells-split sound at p w order j rows k are = by-test (Standing s b) (nat_lt k 32) (stand (SplitTold at p (suc k)) (told k (split_one s p) w)) (stand (SplitFirst at p) w)
      (λ h. (order, (j, rows, sym (from-told k (split_one s p) w.nodes) ∙ are)))
      (λ h. (order, (j, rows, sym (from-end k (split_one s p) w.nodes (out (ge-of k 32 h))) ∙ are)))
    where
      out : 32 ≤ k → (n : ℕ) → k ≤ n → (x : Node) → split_one s p n x ≡ x
      out all n le x = ap (λ u. cond u (split_node (first_child p) x) x) (not-serving s sound n (omega (arith, all, le)))

  -- ---- rounds of the children

  module _ (at : ℕ) (p : Low) (w : World) (order : AreInOrder s w.rows) (j : IsSplitOf s b at p) where
    abbrev row : Row
    row = j.row

    abbrev ns : ℕ → Node
    ns = j.before.nodes

    abbrev rest : List Row
    rest = remove j.before.rows at

    abbrev one : Row
    one = child_row (first_child j.row.bucket) j.row

    abbrev two : Row
    two = child_row (second_child j.row.bucket) j.row

    abbrev first : Row
    first = first_row s j.row j.before.nodes

    abbrev second : Row
    second = second_row s j.row j.before.nodes

    abbrev own : IsSplitOf s b at j.row.bucket
    own = record { before = j.before; splitting = j.splitting; order = j.order; row = j.row; found = j.found; few = j.few; full = j.full; bucket = refl }

    abbrev rows_with : Row → (ℕ → Node) → List Row → List Row
    rows_with r ms rs = slice_set rs (place_of r.bucket rs) (round_row s r ms)

    -- the round of a row that is found
    round-order : (r : Row) → slice_get w.rows (place_of r.bucket w.rows) ≡ Some r → AreInOrder s (round_of s (place_of r.bucket w.rows) r w).rows
    round-order r found = order-set s w.rows (place_of r.bucket w.rows) r (round_row s r w.nodes) found refl (all-at (ActiveServes s) w.rows (place_of r.bucket w.rows) r found order.serve) order

    module _ (rows : w.rows ≡ with_children at j.row j.before.rows) (are : w.nodes ≡ split_nodes s j.row j.before.nodes) where
      swapped : w.rows ≡ with_row one (with_row two rest)
      swapped = rows ∙ placed-swap one two rest (first-below j.row.bucket)

      first-found : slice_get w.rows (place_of (first_child j.row.bucket) w.rows) ≡ Some one
      first-found = subst (λ (rs : List Row). slice_get rs (place_of (first_child j.row.bucket) rs) ≡ Some one) (sym swapped) (get-placed one (with_row two rest))

      first-rows : rows_with one w.nodes w.rows ≡ with_row two (with_row first rest)
      first-rows = ap₂ (rows_with one) are swapped
          ∙ (set-placed one first (with_row two rest) refl ∙ sym (placed-swap first two rest (first-below j.row.bucket)))

      rounds-first-own : Standing s b (turn_at s (SplitFirst at j.row.bucket) w)
      rounds-first-own = in-row (Standing s b) (slice_get w.rows (place_of (first_child j.row.bucket) w.rows)) (stand (SplitSecond at j.row.bucket) w) (λ r. stand (SplitSecond at j.row.bucket) (round_of s (place_of (first_child j.row.bucket) w.rows) r w)) one first-found
          (round-order one first-found, (own, first-rows, ap (round_node s one) are))

      pub rounds-first : Standing s b (turn_at s (SplitFirst at p) w)
      rounds-first = subst (λ (q : Low). Standing s b (turn_at s (SplitFirst at q) w)) (sym j.bucket) rounds-first-own

    module _ (rows : w.rows ≡ with_row two (with_row first rest)) (are : w.nodes ≡ first_nodes s j.row j.before.nodes) where
      second-found : slice_get w.rows (place_of (second_child j.row.bucket) w.rows) ≡ Some two
      second-found = subst (λ (rs : List Row). slice_get rs (place_of (second_child j.row.bucket) rs) ≡ Some two) (sym rows) (get-placed two (with_row first rest))

      abbrev rounded_with : (ℕ → Node) → List Row → World
      rounded_with ms rs = record { nodes = round_node s two ms; rows = rows_with two ms rs }

      splits-all : round_of s (place_of (second_child j.row.bucket) w.rows) two w ≡ after_split s j.row at j.before
      splits-all = ap₂ rounded_with are rows
          ∙ ap (λ (rs : List Row). record { nodes = second_nodes s row ns; rows = rs }) (set-placed two second (with_row first rest) refl)

      split-rounded : AllRows (IsRounded s) (after_split s j.row at j.before).rows
      split-rounded =
          let x = all-among (IsRounded s) row j.before.rows rest j.splitting.rounded (among-removed j.before.rows at row j.found) in
          among-all (IsRounded s) second (with_row second (with_row first rest)) (with_row first rest) (round-rounded s two (first_nodes s row ns))
          (among-all (IsRounded s) first (with_row first rest) rest (round-rounded s one (split_nodes s row ns)) x.1 (among-placed first rest)) (among-placed second (with_row first rest))

      split-now : IsSplitting s b at (after_split s j.row at j.before)
      split-now =
          let ok = all-at (λ (r : Row). IsBucket r.bucket) j.before.rows at row j.found (valid-rows j.before.rows j.order.apart) in
          record {
            joined = j.splitting.joined;
            first = j.splitting.first;
            now = split-goes-on s j.before at row j.found j.few j.splitting.joined ok j.order.rises j.full j.splitting.now;
            rounded = split-rounded;
          }

      rounds-second-own : Standing s b (turn_at s (SplitSecond at j.row.bucket) w)
      rounds-second-own = in-row (Standing s b) (slice_get w.rows (place_of (second_child j.row.bucket) w.rows)) (stand (Splitting at) w) (λ r. stand (Splitting at) (round_of s (place_of (second_child j.row.bucket) w.rows) r w)) two second-found
          (round-order two second-found, subst (λ (v : World). IsSplitting s b at v) (sym splits-all) split-now)

      pub rounds-second : Standing s b (turn_at s (SplitSecond at p) w)
      rounds-second = subst (λ (q : Low). Standing s b (turn_at s (SplitSecond at q) w)) (sym j.bucket) rounds-second-own
