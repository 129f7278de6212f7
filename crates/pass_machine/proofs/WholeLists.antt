-- The rows behind a split and behind a join, with their notes, are those in the abstract.
use Rattle.std.proofs.Common.{◌≡◌, ◌∙◌, ◌==◌, ◌&&◌, not, ◌<◌, ◌≤◌, ℕ, suc, Bool, true, false, cond, List, [], ◌∷◌, map, Option, Some, None, inl, inr, refl, sym, ap, ap₂, subst, arith, nat_lt, slice_get, get_or, eqb-true, pow_pos, Less, Equal, Greater}
use mathlib.Core.Bool.{true≢false}
use Rattle.std.specs.Ordering.{nat_cmp, is_eq}
use Rattle.std.specs.Prelude.{IsSome}
use Rattle.std.specs.List.{remove, filter, count_by, AllByRecursion}
use Rattle.std.specs.BTreeMap.{BTreeMap, Updates, get}
use Rattle.std.proofs.lemmas.Option.{slice_get_within, get_or_from_slice_get}
use Rattle.bucket_ids.specs.Buckets.{Low, IsBucket, has_key, covers, first_child, second_child, parent_of}
use Rattle.bucket_ids.specs.Printed.{number_of}
use Rattle.bucket_db.specs.Changes.{with_row, first_half, second_half, split_at, with_halves, with_joined, IsJoinable, IsJoined}
use Rattle.bucket_db.specs.Rows.{AreRows, buckets_of}
use Rattle.bucket_db.specs.declared.row.Row.{Row}
use Rattle.proof_basics.proofs.Lists.{one_if, left_at, filter_at, same_images, image_at, of_image}
use Rattle.bucket_db.proofs.Inside.{has_low, low_below, covers_key, covers_first, covers_second, covers_self, first_valid, second_valid, parent_valid, number_same}
use Rattle.bucket_db.proofs.RowLists.{bucket_at, valid_at, one_row, rows_rise, rises_of_rising}
use Rattle.bucket_db.proofs.RowLaws.{pair_of, are_halves, halves_go}
use Rattle.node_sets.specs.Members.{has_node}
use Rattle.messages.specs.declared.decision.Decision.{Decision}
use Rattle.messages.specs.declared.decision.Decision.TheVariants.{RowSplit}
use Rattle.distributor_part.specs.Parts.{Part, rows_of}
use Rattle.distributor_part.specs.Upkeep.{SplitsRow, JoinsRows}
use Rattle.pass_model.specs.Shapes.{Shape, Nothing}
use Rattle.pass_model.specs.Rows as rest
use Rattle.pass_model.specs.Rows.{Settings}
use Rattle.pass_model.specs.Passes.{World, merged, child_row}
use Rattle.pass_model.specs.Sweeps as sweeps
use Rattle.pass_model.specs.Turns.{with_children, without_pair}
use Rattle.pass_machine.specs.declared.doing.Time.{Time}
use Rattle.pass_machine.specs.declared.notes.RowNote.{RowNote}
use Rattle.pass_machine.specs.Notes.{of_bucket, note_for, whole_in}
use Rattle.pass_machine.specs.Going.{Forgets, split_makes, join_makes}
use Rattle.pass_machine.specs.Abstract.{is_accepted, row_with, row_in, rows_in, IsInNotes, AreNoted, IsPairJoined}
use Rattle.pass_machine.proofs.Lists.{two_gone, image_removed, image_placed}
use Rattle.pass_machine.proofs.Pairs.{second_is}

-- ---- notes that go

other-key : (m n : ℕ) (t w : Bool) → (m == n) ≡ w → (n ≡ m → ⊥) → is_eq (cond t Less (cond w Equal Greater)) ≡ false
other-key m n true w e off = refl
other-key m n false true e off = absurd (off (sym (eqb-true m n e)))
other-key m n false false e off = refl

stays : {X : Type 0} (old new : BTreeMap ℕ X) (m n : ℕ) (o : Option X) → Updates nat_cmp old new m o → (n ≡ m → ⊥) → get nat_cmp new n ≡ get nat_cmp old n
stays old new m n o u off = u.2 n (other-key m n (nat_lt m n) (m == n) refl off)

-- ---- rows with notes

in-bucket : (shown : Low → ℕ → Shape) (notes : BTreeMap ℕ RowNote) (row : Row) → (row_in shown notes row).bucket ≡ row.bucket
in-bucket shown notes row = by_note (whole_in (note_for row.bucket notes))
  where
    by_note : (o : Option RowNote) → (row_with (shown row.bucket) o row).bucket ≡ row.bucket
    by_note None = refl
    by_note (Some note) = refl

same-note : (shown : Low → ℕ → Shape) (old new : BTreeMap ℕ RowNote) (row : Row) → get nat_cmp new (number_of row.bucket) ≡ get nat_cmp old (number_of row.bucket) → row_in shown new row ≡ row_in shown old row
same-note shown old new row e = ap (λ (o : Option RowNote). row_with (shown row.bucket) (whole_in (of_bucket row.bucket o)) row) e

no-note : (shown : Low → ℕ → Shape) (notes : BTreeMap ℕ RowNote) (row : Row) → get nat_cmp notes (number_of row.bucket) ≡ None → row_in shown notes row ≡ row_with (shown row.bucket) None row
no-note shown notes row e = ap (λ (o : Option RowNote). row_with (shown row.bucket) (whole_in (of_bucket row.bucket o)) row) e

module _ (lane : Low) (rows : List Row) (h : AreRows lane (buckets_of rows)) where
  pub valid : (k : ℕ) (row : Row) → slice_get rows k ≡ Some row → IsBucket row.bucket
  valid k row found = valid_at (buckets_of rows) k row.bucket h.valid (bucket_at rows k row found)

  -- rows that have a key in common are one
  pub one-place : (i k : ℕ) (x y : Row) → slice_get rows i ≡ Some x → slice_get rows k ≡ Some y → has_key y.bucket x.bucket.low ≡ true → i ≡ k
  one-place i k x y at to has =
      let ok = valid i x at in
      let whole : count_by (λ b. has_key b x.bucket.low) (buckets_of rows) ≡ one_if (has_key lane x.bucket.low) = h.partition x.bucket.low (low_below x.bucket ok) in
      one_row rows x.bucket.low i k x y (omega (arith, whole, least (has_key lane x.bucket.low))) at to (has_low x.bucket ok) has
    where
      least : (t : Bool) → one_if t ≤ 1
      least true = omega arith
      least false = omega arith

  rise : (i k : ℕ) (x y : Row) → slice_get rows i ≡ Some x → slice_get rows k ≡ Some y → i ≤ k → number_of x.bucket ≤ number_of y.bucket
  rise i k x y at to le =
      subst (λ (r : Row). number_of r.bucket ≤ number_of y.bucket) (get_or_from_slice_get rows i x x at)
      (subst (λ (r : Row). number_of (get_or rows i x).bucket ≤ number_of r.bucket) (get_or_from_slice_get rows k y x to)
      (rows_rise rows (rises_of_rising (buckets_of rows) h.rising) i k x le (slice_get_within rows k y to)))

  -- ---- a split

  module _ (at : ℕ) (row : Row) (found : slice_get rows at ≡ Some row) (few : row.bucket.bits < 58) (shown : Low → ℕ → Shape) (old new : BTreeMap ℕ RowNote) (forgets : Forgets (first_child row.bucket ∷ second_child row.bucket ∷ []) old new) where
    ok : IsBucket row.bucket
    ok = valid at row found

    -- no other row has the number of a child
    off-child : (c : Low) → IsBucket c → covers row.bucket c ≡ true → (k : ℕ) (z : Row) → slice_get (remove rows at) k ≡ Some z → number_of z.bucket ≡ number_of c → ⊥
    off-child c okc over k z there same = elim (left_at rows at k z there) [
      | inl e ↦ (let x = must k e.0 in let less = e.1 in absurd (omega (arith, x, less)))
      | inr e ↦ (let x = must (suc k) e.0 in let le = e.1 in absurd (omega (arith, x, le)))
    ]
      where
        must : (j : ℕ) → slice_get rows j ≡ Some z → j ≡ at
        must j e =
            let okz = valid j z e in
            let is : c ≡ z.bucket = sym (number_same z.bucket c okz okc same) in
            one-place j at z row e found (covers_key row.bucket z.bucket z.bucket.low (subst (λ (b : Low). covers row.bucket b ≡ true) is over) (has_low z.bucket okz))

    others-stay : (k : ℕ) (z : Row) → slice_get (remove rows at) k ≡ Some z → row_in shown new z ≡ row_in shown old z
    others-stay k z there =
        let n = number_of z.bucket in
        let second = forgets.2 in
        same-note shown old new z (ap (λ (m : BTreeMap ℕ RowNote). get nat_cmp m n) second.2
        ∙ (stays forgets.0 second.0 (number_of (second_child row.bucket)) n None second.1 (off-child (second_child row.bucket) (second_valid row.bucket ok few) (covers_second row.bucket ok) k z there)
        ∙ stays old forgets.0 (number_of (first_child row.bucket)) n None forgets.1 (off-child (first_child row.bucket) (first_valid row.bucket ok few) (covers_first row.bucket ok) k z there)))

    child-in : (c : Low) (r : Row) (o : Option RowNote) → row_with (shown c) None (record r { bucket = c }) ≡ child_row c (row_with (shown r.bucket) o r)
    child-in c r None = refl
    child-in c r (Some note) = refl

    first-in : row_in shown new (first_half row) ≡ child_row (first_child (row_in shown old row).bucket) (row_in shown old row)
    first-in =
        let second = forgets.2 in
        let apart : number_of (first_child row.bucket) ≡ number_of (second_child row.bucket) → ⊥ = λ e. (let some = pow_pos row.bucket.bits in absurd (omega (arith, e, some))) in
        no-note shown new (first_half row) (ap (λ (m : BTreeMap ℕ RowNote). get nat_cmp m (number_of (first_child row.bucket))) second.2
        ∙ (stays forgets.0 second.0 (number_of (second_child row.bucket)) (number_of (first_child row.bucket)) None second.1 apart ∙ (forgets.1).1))
        ∙ (child-in (first_child row.bucket) row (whole_in (note_for row.bucket old))
        ∙ ap (λ (b : Low). child_row (first_child b) (row_in shown old row)) (sym (in-bucket shown old row)))

    second-in : row_in shown new (second_half row) ≡ child_row (second_child (row_in shown old row).bucket) (row_in shown old row)
    second-in =
        let second = forgets.2 in
        no-note shown new (second_half row) (ap (λ (m : BTreeMap ℕ RowNote). get nat_cmp m (number_of (second_child row.bucket))) second.2 ∙ (second.1).1)
        ∙ (child-in (second_child row.bucket) row (whole_in (note_for row.bucket old))
        ∙ ap (λ (b : Low). child_row (second_child b) (row_in shown old row)) (sym (in-bucket shown old row)))

    pub split_list : rows_in shown new (split_at at rows) ≡ with_children at (row_in shown old row) (rows_in shown old rows)
    split_list =
        ap (λ (o : Option Row). rows_in shown new (with_halves o (remove rows at))) found
        ∙ (image_placed (row_in shown new) (in-bucket shown new) (second_half row) (with_row (first_half row) (remove rows at))
        ∙ (ap₂ sweeps.with_row second-in
        (image_placed (row_in shown new) (in-bucket shown new) (first_half row) (remove rows at)
        ∙ ap₂ sweeps.with_row first-in (same_images (row_in shown new) (row_in shown old) (remove rows at) others-stay ∙ image_removed (row_in shown old) rows at))))

  -- ---- a join

  module _ (at : ℕ) (row other joined : Row) (found : slice_get rows at ≡ Some row) (can : IsJoinable lane rows row other) (is : IsJoined row other joined) (first : row.bucket ≡ first_child (parent_of row.bucket))
      (shown : Low → ℕ → Shape) (old new : BTreeMap ℕ RowNote) (forgets : Forgets (parent_of row.bucket ∷ []) old new) where
    abbrev one : rest.Row
    one = row_in shown old row

    abbrev place : ℕ
    place = can.is_row.0

    there : slice_get rows place ≡ Some other
    there = (pair_of lane rows at row other found can).found

    above : 1 < row.bucket.bits
    above = let some = h.bucket.some in let inside = can.inside in omega (arith, some, inside)

    parent-ok : IsBucket (parent_of row.bucket)
    parent-ok = parent_valid row.bucket (valid at row found) above

    other-is : other.bucket ≡ second_child (parent_of row.bucket)
    other-is = can.sibling ∙ sym (second_is row.bucket (valid at row found) above first)

    behind : (k : ℕ) (z : Row) → slice_get rows k ≡ Some z → z.bucket ≡ second_child (parent_of row.bucket) → k ≤ at → ⊥
    behind k z e second le =
        let up = rise k at z row e found le in
        let low : number_of row.bucket ≡ number_of (first_child (parent_of row.bucket)) = ap number_of first in
        let high : number_of z.bucket ≡ number_of (second_child (parent_of row.bucket)) = ap number_of second in
        let some = pow_pos (parent_of row.bucket).bits in
        absurd (omega (arith, up, low, high, some))

    abbrev left-rows : List Row
    left-rows = filter (λ (r : Row). not (covers joined.bucket r.bucket)) rows

    rows-left : left-rows ≡ remove (remove rows place) at
    rows-left = halves_go rows at place row joined.bucket (are_halves lane rows at place row other h found there can.sibling above) found (slice_get_within rows at row found) (slice_get_within rows place other there) is.bucket at place
        (λ up. (refl, refl)) (λ down. absurd (behind place other there other-is down))

    rest-stay : (k : ℕ) (z : Row) → slice_get left-rows k ≡ Some z → row_in shown new z ≡ row_in shown old z
    rest-stay k z e =
        let f = filter_at (λ (r : Row). not (covers joined.bucket r.bucket)) rows k z e in
        let off : number_of z.bucket ≡ number_of (parent_of row.bucket) → ⊥ = λ same. (
        let b : z.bucket ≡ joined.bucket = number_same z.bucket (parent_of row.bucket) (valid f.0 z f.1) parent-ok same ∙ sym is.bucket in
        let over : covers joined.bucket z.bucket ≡ true = ap (covers joined.bucket) b ∙ covers_self joined.bucket (subst IsBucket (sym is.bucket) parent-ok) in
        true≢false (sym f.2 ∙ ap not over)) in
        same-note shown old new z (ap (λ (m : BTreeMap ℕ RowNote). get nat_cmp m (number_of z.bucket)) forgets.2 ∙ stays old forgets.0 (number_of (parent_of row.bucket)) (number_of z.bucket) None forgets.1 off)

    both-accepted : (a : Option ℕ) (x y : Bool) → is_accepted a (x && y) ≡ (is_accepted a x && is_accepted a y)
    both-accepted None x y = refl
    both-accepted (Some node) x y = refl

    accepted-is : is_accepted joined.active joined.accepted ≡ (is_accepted row.active row.accepted && is_accepted other.active other.accepted)
    accepted-is = ap₂ is_accepted is.active is.accepted ∙ (both-accepted row.active row.accepted other.accepted ∙ ap (λ (a : Option ℕ). is_accepted row.active row.accepted && is_accepted a other.accepted) can.active)

    parent-in : (x y : Option RowNote) → row_with (shown joined.bucket) None joined ≡ merged (parent_of row.bucket) (row_with (shown row.bucket) x row) (row_with (shown other.bucket) y other)
    parent-in x y = (λ i. record {
      bucket = is.bucket i;
      complete = λ n. is.complete n i;
      active = is.active i;
      accepted = accepted-is i;
      documents = 0;
      holders = λ n. false;
      shown = λ n. Nothing;
    }) ∙ by_notes x y
      where
        by_notes : (x y : Option RowNote) → ◌≡◌ {A = rest.Row} (record {
          bucket = parent_of row.bucket;
          complete = λ n. has_node row.complete n && has_node other.complete n;
          active = row.active;
          accepted = is_accepted row.active row.accepted && is_accepted other.active other.accepted;
          documents = 0;
          holders = λ n. false;
          shown = λ n. Nothing;
        }) (merged (parent_of row.bucket) (row_with (shown row.bucket) x row) (row_with (shown other.bucket) y other))
        by_notes None None = refl
        by_notes None (Some b) = refl
        by_notes (Some a) None = refl
        by_notes (Some a) (Some b) = refl

    joined-in : row_in shown new joined ≡ merged (parent_of row.bucket) one (row_in shown old other)
    joined-in = no-note shown new joined (ap (λ (b : Low). get nat_cmp new (number_of b)) is.bucket ∙ (ap (λ (m : BTreeMap ℕ RowNote). get nat_cmp m (number_of (parent_of row.bucket))) forgets.2 ∙ (forgets.1).1))
        ∙ parent-in (whole_in (note_for row.bucket old)) (whole_in (note_for other.bucket old))

    -- where the second half stands among the others
    module _ (k : ℕ) (two : rest.Row) (beside : slice_get (remove (rows_in shown old rows) at) k ≡ Some two) (second : two.bucket ≡ second_child (parent_of row.bucket)) where
      bucket-of : (z : Row) → two ≡ row_in shown old z → z.bucket ≡ second_child (parent_of row.bucket)
      bucket-of z e = sym (in-bucket shown old z) ∙ (sym (ap (λ (r : rest.Row). r.bucket) e) ∙ second)

      beside-is : (at ≤ k) × (place ≡ suc k) × (two ≡ row_in shown old other)
      beside-is = elim (left_at (rows_in shown old rows) at k two beside) [
        | inl e ↦ (let z = of_image (row_in shown old) rows k two e.0 in let less = e.1 in absurd (behind k z.0 z.1 (bucket-of z.0 z.2) (omega (arith, less))))
        | inr e ↦
            let z = of_image (row_in shown old) rows (suc k) two e.0 in
            let same : place ≡ suc k = one-place place (suc k) other z.0 there z.1
            (subst (λ (b : Low). has_key b other.bucket.low ≡ true) (other-is ∙ sym (bucket-of z.0 z.2)) (has_low other.bucket (valid place other there))) in
            let twice : Some z.0 ≡ Some other = sym z.1 ∙ (ap (slice_get rows) (sym same) ∙ there) in
            let is_other : z.0 ≡ other = cc in
            (e.1, same, z.2 ∙ ap (row_in shown old) is_other)
      ]

      pub join_list : rows_in shown new (with_joined joined rows) ≡ sweeps.with_row (merged (parent_of row.bucket) one two) (without_pair at k (rows_in shown old rows))
      join_list =
          let gone : remove (remove rows place) at ≡ remove (remove rows at) k = ap (λ (i : ℕ). remove (remove rows i) at) beside-is.1 ∙ two_gone rows at k beside-is.0 in
          image_placed (row_in shown new) (in-bucket shown new) joined left-rows
          ∙ ap₂ sweeps.with_row (joined-in ∙ ap (merged (parent_of row.bucket) one) (sym beside-is.2))
          (same_images (row_in shown new) (row_in shown old) left-rows rest-stay
          ∙ (ap (map (row_in shown old)) (rows-left ∙ gone)
          ∙ (image_removed (row_in shown old) (remove rows at) k ∙ ap (λ (rs : List rest.Row). remove rs k) (image_removed (row_in shown old) rows at))))

-- ---- the rows of a part

pub noted_list : (shown : Low → ℕ → Shape) (notes : BTreeMap ℕ RowNote) (rows : List Row) → AllByRecursion (λ (row : Row). IsSome (whole_in (note_for row.bucket notes)) × (row.deleting ≡ None)) rows → AreNoted notes rows (rows_in shown notes rows)
noted_list shown notes [] h = tt
noted_list shown notes (row ∷ rows) h = (by_note (whole_in (note_for row.bucket notes)) refl (h.0).0, noted_list shown notes rows h.1)
  where
    by_note : (o : Option RowNote) → whole_in (note_for row.bucket notes) ≡ o → IsSome o → IsInNotes notes row (row_in shown notes row)
    by_note None e some = absurd (true≢false (sym some))
    by_note (Some note) e some = record { note = note; shown = shown row.bucket; whole = e; quiet = (h.0).1; same = ap (λ (o : Option RowNote). row_with (shown row.bucket) o row) e }

module _ (shown : Low → ℕ → Shape) (old new : BTreeMap ℕ RowNote) (p q : Part) (at : ℕ) (h : AreRows p.lane (buckets_of (rows_of p.rows))) where
  pub part_splits : (x : SplitsRow p q at) → Forgets (split_makes (RowSplit (x.row).bucket)) old new → rows_in shown new (rows_of q.rows) ≡ with_children at (row_in shown old x.row) (rows_in shown old (rows_of p.rows))
  part_splits x forgets =
      let rows : rows_of p.rows ≡ (x.rows).rows = ap rows_of x.opened in
      let there : slice_get (rows_of p.rows) at ≡ Some x.row = ap (λ (l : List Row). slice_get l at) rows ∙ x.found in
      ap (λ (part : Part). rows_in shown new (rows_of part.rows)) x.after
      ∙ (ap (λ (l : List Row). rows_in shown new (split_at at l)) (sym rows) ∙ split_list p.lane (rows_of p.rows) h at x.row there x.fewer shown old new forgets)

  module _ (x : JoinsRows p q at) (w : World) (are : w.rows ≡ rows_in shown old (rows_of p.rows)) (s : Settings) (list : List Low) (t : Time) (bits : ℕ) (d : Decision) (j : IsPairJoined s list w t bits at d) where
    rows-are : rows_of p.rows ≡ (x.rows).rows
    rows-are = ap rows_of x.opened

    own : slice_get (rows_of p.rows) at ≡ Some x.row
    own = ap (λ (l : List Row). slice_get l at) rows-are ∙ x.found

    can-join : IsJoinable p.lane (rows_of p.rows) x.row x.other
    can-join = subst (λ (l : List Row). IsJoinable p.lane l x.row x.other) (sym rows-are) (subst (λ (l : Low). IsJoinable l (x.rows).rows x.row x.other) x.same_lane x.joinable)

    one-is : j.one ≡ row_in shown old x.row
    one-is =
        let twice : Some j.one ≡ Some (row_in shown old x.row) = sym j.found ∙ (ap (λ (l : List rest.Row). slice_get l at) are ∙ image_at (row_in shown old) (rows_of p.rows) at x.row own) in
        cc

    bucket-is : (j.one).bucket ≡ (x.row).bucket
    bucket-is = ap (λ (r : rest.Row). r.bucket) one-is ∙ in-bucket shown old x.row

    pub part_joins : Forgets (join_makes d) old new → rows_in shown new (rows_of q.rows) ≡ sweeps.with_row (merged (parent_of (j.one).bucket) j.one j.two) (without_pair at j.other w.rows)
    part_joins forgets =
        let gone : Forgets (parent_of (x.row).bucket ∷ []) old new = subst (λ (b : Low). Forgets (parent_of b ∷ []) old new) bucket-is (subst (λ (y : Decision). Forgets (join_makes y) old new) j.decision forgets) in
        let first : (x.row).bucket ≡ first_child (parent_of (x.row).bucket) = subst (λ (b : Low). b ≡ first_child (parent_of b)) bucket-is j.first in
        let beside : slice_get (remove (rows_in shown old (rows_of p.rows)) at) j.other ≡ Some j.two = ap (λ (l : List rest.Row). slice_get (remove l at) j.other) (sym are) ∙ j.beside in
        let second : (j.two).bucket ≡ second_child (parent_of (x.row).bucket) = j.second ∙ ap (λ (b : Low). second_child (parent_of b)) bucket-is in
        ap (λ (part : Part). rows_in shown new (rows_of part.rows)) x.after
        ∙ (ap (λ (l : List Row). rows_in shown new (with_joined x.joined l)) (sym rows-are)
        ∙ (join_list p.lane (rows_of p.rows) h at x.row x.other x.joined own can-join x.is_joined first shown old new gone j.other j.two beside second
        ∙ ap₂ (λ (r : rest.Row) (l : List rest.Row). sweeps.with_row r (without_pair at j.other l)) (ap₂ (λ (b : Low) (r : rest.Row). merged (parent_of b) r j.two) (sym bucket-is) (sym one-is)) (sym are)))
