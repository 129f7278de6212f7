-- When a row may be joined, as the part says it and as a test.
use Rattle.std.proofs.Common.{◌≡◌, ◌∙◌, ◌&&◌, not, ◌<◌, ℕ, Bool, true, false, List, [], ◌∷◌, Option, None, Some, Contains, ◌⊎◌, inl, inr, refl, sym, ap, subst, arith, eq-eqb, eqb-true, nat_lt, slice_get, get_or, suc, zero, length}
use Rattle.std.specs.Prelude.{IfSome, IsTrue, ◌↔◌, is_some}
use Rattle.std.specs.List.{list_any}
use Rattle.std.proofs.lemmas.Bool.Decides.{nat_tests}
use Rattle.std.proofs.lemmas.List.Elements.{Contains-append_right}
use mathlib.Core.Bool.{true≢false}
use Rattle.bucket_ids.specs.Buckets.{Low, sibling_of}
use Rattle.pieces.specs.Pieces.{same_bucket}
use Rattle.pieces.proofs.PieceLaws.{bucket-same, same-refl}
use Rattle.bucket_db.specs.Changes.{IsJoinable}
use Rattle.bucket_db.specs.Rows.{Rows}
use Rattle.bucket_db.specs.declared.row.Row.{Row}
use Rattle.bucket_db.specs.declared.row.Deleting.{Deleting as Delete}
use Rattle.distributor_part.specs.Parts.{Part, rows_of}
use Rattle.distributor_part.specs.Upkeep.{CanJoinAt}
use Rattle.proof_basics.proofs.Tests.{or_true, or_left, or_right, same-by}
use Rattle.pass_machine.specs.Places.{is_same_node, is_sibling, can_join}

both-of : (a b : Bool) → (a && b) ≡ true → (a ≡ true) × (b ≡ true)
both-of true b h = (refl, h)
both-of false b h = absurd (true≢false (sym h))

both-are : (a b : Bool) → a ≡ true → b ≡ true → (a && b) ≡ true
both-are true b h i = i
both-are false b h i = h

-- ---- elements that pass a test

any-of : (p : Row → Bool) (xs : List Row) → list_any p xs ≡ true → (x : Row) × Contains xs x × (p x ≡ true)
any-of p [] h = absurd (true≢false (sym h))
any-of p (y ∷ ys) h = elim (or_true (p y) (list_any p ys) h) [
  | inl here ↦ (y, (0, omega arith, refl), here)
  | inr later ↦ (let x = any-of p ys later in (x.0, Contains-append_right (y ∷ []) ys x.0 x.1, x.2))
]

any-at : (p : Row → Bool) (x : Row) → p x ≡ true → (ys : List Row) (k : ℕ) → k < length ys → get_or ys k x ≡ x → list_any p ys ≡ true
any-at p x h [] k less is = absurd (omega (arith, less))
any-at p x h (y ∷ ys) zero less is = or_left (p y) (list_any p ys) (ap p is ∙ h)
any-at p x h (y ∷ ys) (suc k) less is = let lower : k < length ys = omega (arith, less) in or_right (p y) (list_any p ys) (any-at p x h ys k lower is)

-- ---- what is asked of the sibling

pub node-refl : (a : Option ℕ) → is_same_node a a ≡ true
node-refl None = refl
node-refl (Some m) = eq-eqb m m refl

pub node-same : (a b : Option ℕ) → is_same_node a b ≡ true → a ≡ b
node-same None None h = refl
node-same None (Some n) h = absurd (true≢false (sym h))
node-same (Some m) None h = absurd (true≢false (sym h))
node-same (Some m) (Some n) h = ap (λ (k : ℕ). Some k) (eqb-true m n h)

one-free : (a b : Option Delete) → (a ≡ None) ⊎ (b ≡ None) → not (is_some a && is_some b) ≡ true
one-free a b (inl h) = ap (λ (o : Option Delete). not (is_some o && is_some b)) h
one-free None b (inr h) = refl
one-free (Some d) b (inr h) = ap (λ (o : Option Delete). not (is_some o)) h

free-one : (a b : Option Delete) → not (is_some a && is_some b) ≡ true → (a ≡ None) ⊎ (b ≡ None)
free-one None b h = inl refl
free-one (Some d) None h = inr refl
free-one (Some d) (Some e) h = absurd (true≢false (sym h))

sibling-to : (lane : Low) (rows : List Row) (row other : Row) → IsJoinable lane rows row other → can_join lane rows row ≡ true
sibling-to lane rows row other j =
    let is : is_sibling row other ≡ true = both-are (same_bucket other.bucket (sibling_of row.bucket)) (is_same_node row.active other.active && not (is_some row.deleting && is_some other.deleting))
    (subst (λ (b : Low). same_bucket other.bucket b ≡ true) j.sibling (same-refl other.bucket))
    (both-are (is_same_node row.active other.active) (not (is_some row.deleting && is_some other.deleting)) (subst (λ (a : Option ℕ). is_same_node row.active a ≡ true) j.active (node-refl row.active)) (one-free row.deleting other.deleting j.deletes)) in
    both-are (nat_lt lane.bits row.bucket.bits) (list_any (is_sibling row) rows) (below lane.bits row.bucket.bits j.inside) (any-at (is_sibling row) other is rows (j.is_row).0 (j.is_row).1 (j.is_row).2)
  where
    below : (m n : ℕ) → m < n → nat_lt m n ≡ true
    below m n h = grind (arith, nat_tests)

pub to-sibling : (lane : Low) (rows : List Row) (row : Row) → can_join lane rows row ≡ true → (other : Row) × IsJoinable lane rows row other
to-sibling lane rows row h =
    let x = both-of (nat_lt lane.bits row.bucket.bits) (list_any (is_sibling row) rows) h in
    let found = any-of (is_sibling row) rows x.1 in
    let other = found.0 in
    let y = both-of (same_bucket other.bucket (sibling_of row.bucket)) (is_same_node row.active other.active && not (is_some row.deleting && is_some other.deleting)) found.2 in
    let z = both-of (is_same_node row.active other.active) (not (is_some row.deleting && is_some other.deleting)) y.1 in
    (other, record { is_row = found.1; sibling = bucket-same other.bucket (sibling_of row.bucket) y.0; inside = above lane.bits row.bucket.bits x.0; active = node-same row.active other.active z.0; deletes = free-one row.deleting other.deleting z.1 })
  where
    above : (m n : ℕ) → nat_lt m n ≡ true → m < n
    above m n h = grind (arith, nat_tests)

same-some : {A : Type 0} (x y : A) → Some x ≡ Some y → x ≡ y
same-some x y e = cc

pub can_join_is : (p : Part) (at : ℕ) (row : Row) (t : Bool) → (IsTrue t ↔ CanJoinAt p at) → IfSome p.rows (λ d. d.lane ≡ p.lane) → slice_get (rows_of p.rows) at ≡ Some row → t ≡ can_join p.lane (rows_of p.rows) row
can_join_is p at row t clause of_lane found = same-by t (can_join p.lane (rows_of p.rows) row) (λ h. to (clause.0 h)) (λ h. clause.1 (from (to-sibling p.lane (rows_of p.rows) row h)))
  where
    to : CanJoinAt p at → can_join p.lane (rows_of p.rows) row ≡ true
    to c =
        let lane : (c.rows).lane ≡ p.lane = subst (λ (o : Option Rows). IfSome o (λ d. d.lane ≡ p.lane)) c.opened of_lane in
        let rows : rows_of p.rows ≡ (c.rows).rows = ap rows_of c.opened in
        let here : slice_get (c.rows).rows at ≡ Some row = ap (λ (l : List Row). slice_get l at) (sym rows) ∙ found in
        let can = subst (λ (o : Option Row). IfSome o (λ r. (other : Row) × IsJoinable (c.rows).lane (c.rows).rows r other)) here c.can in
        subst (λ (l : Low). can_join l (rows_of p.rows) row ≡ true) lane
        (subst (λ (l : List Row). can_join (c.rows).lane l row ≡ true) (sym rows) (sibling-to (c.rows).lane (c.rows).rows row can.0 can.1))

    from : (other : Row) × IsJoinable p.lane (rows_of p.rows) row other → CanJoinAt p at
    from x = by_rows p.rows refl
      where
        by_rows : (o : Option Rows) → p.rows ≡ o → CanJoinAt p at
        by_rows None e = absurd (let no : ◌≡◌ {A = Option Row} None (Some row) = sym (ap (λ (o : Option Rows). slice_get (rows_of o) at) e) ∙ found in cc)
        by_rows (Some d) e =
            let lane : d.lane ≡ p.lane = subst (λ (o : Option Rows). IfSome o (λ d. d.lane ≡ p.lane)) e of_lane in
            let rows : rows_of p.rows ≡ d.rows = ap rows_of e in
            let j : IsJoinable d.lane d.rows row x.0 = subst (λ (l : Low). IsJoinable l d.rows row x.0) (sym lane) (subst (λ (l : List Row). IsJoinable p.lane l row x.0) rows x.1) in
            let here : slice_get d.rows at ≡ Some row = ap (λ (l : List Row). slice_get l at) (sym rows) ∙ found in
            record { rows = d; opened = e; can = subst (λ (o : Option Row). IfSome o (λ r. (other : Row) × IsJoinable d.lane d.rows r other)) (sym here) (x.0, j) }
