-- Pairs of rows are joined as in the abstract.
use Rattle.std.proofs.Common.{◌≡◌, ◌∙◌, ◌==◌, ◌&&◌, not, ◌<◌, ◌≤◌, ◌+◌, ◌-◌, ◌/◌, ℕ, zero, suc, Bool, true, false, List, [], ◌∷◌, Option, Some, None, inl, inr, refl, sym, ap, ap₂, subst, arith, nat_lt, nat_le, slice_get, eq-eqb, eqb-true, if◌then◌else◌}
use Rattle.std.specs.Prelude.{is_some}
use Rattle.std.specs.List.{list_any, remove}
use Rattle.std.specs.BTreeMap.{BTreeMap}
use Rattle.bucket_ids.specs.Buckets.{Low, IsBucket, first_child, second_child, parent_of, sibling_of}
use Rattle.pieces.specs.Pieces.{same_bucket}
use Rattle.proof_basics.proofs.Tests.{both, or_true, or_left, or_right, and_true, clash}
use Rattle.pieces.proofs.PieceLaws.{bucket-same, same-refl}
use Rattle.bucket_db.specs.Rows.{AreRows, buckets_of}
use Rattle.bucket_db.specs.declared.row.Row.{Row}
use Rattle.bucket_db.specs.declared.row.Deleting.{Deleting as Delete}
use Rattle.bucket_db.proofs.Inside.{children_of_parent, sibling_differs}
use Rattle.bucket_db.proofs.RowLists.{valid_at, bucket_at}
use Rattle.messages.specs.declared.decision.Decision.TheVariants.{RowsJoined}
use Rattle.pass_model.specs.Shapes.{Shape}
use Rattle.pass_model.specs.Rows as rest
use Rattle.pass_model.specs.Rows.{Settings}
use Rattle.pass_model.specs.Passes.{World, In, merged}
use Rattle.pass_model.specs.Sweeps.{with_row, fewer}
use Rattle.proof_basics.proofs.Numbers.{le-of, le-to, lt-of, lt-to, ge-of, ge-to}
use Rattle.pass_model.specs.Turns as turns
use Rattle.pass_model.specs.Turns.{Stand, stand, turn_at, by_row, is_pair, place_beside, place_where, without_pair, join_at}
use Rattle.pass_model.proofs.JoinTurns.{pair-can, can-pair}
use Rattle.pass_model.proofs.RowLists.{where-found, where-none}
use Rattle.pass_machine.specs.declared.doing.Time.{Time}
use Rattle.pass_machine.specs.declared.doing.Time.TheVariants.{First, Again}
use Rattle.pass_machine.specs.declared.doing.Doing.TheVariants.{Joining}
use Rattle.pass_machine.specs.declared.doing.UpkeepStep.TheVariants as step
use Rattle.pass_machine.specs.declared.doing.Turn.TheVariants.{Over, Says}
use Rattle.pass_machine.specs.declared.notes.RowNote.{RowNote}
use Rattle.pass_machine.specs.Notes.{note_for, whole_in, documents_in}
use Rattle.pass_machine.specs.Places.{first_with, is_same_node, is_sibling, can_join, are_few, are_small, is_first_half}
use Rattle.pass_machine.specs.Turns.{View, does_join, end_joins, fewer_bits, joining}
use Rattle.pass_machine.specs.Abstract.{time_of, doing_of, row_with, AreOfBuckets, IsInNotes, AreNoted, IsPairJoined, Pairs}
use Rattle.proof_basics.proofs.Lists.{left_at}
use Rattle.pass_machine.proofs.Levels.{levels_same, level_of}
use Rattle.pass_machine.proofs.SettleTurns.{next-one}
use Rattle.pass_machine.proofs.Siblings.{node-refl, node-same}

-- ---- rows and their notes by place

pub of_buckets : (notes : BTreeMap ℕ RowNote) (rows : List Row) (rs : List rest.Row) → AreNoted notes rows rs → AreOfBuckets rows rs
of_buckets notes [] [] h = tt
of_buckets notes (x ∷ xs) (r ∷ rs) h = (sym (ap (λ (q : rest.Row). q.bucket) (h.0).same), of_buckets notes xs rs h.1)
of_buckets notes [] (r ∷ rs) h = absurd h
of_buckets notes (x ∷ xs) [] h = absurd h

pub noted_row : (notes : BTreeMap ℕ RowNote) (rows : List Row) (rs : List rest.Row) → AreNoted notes rows rs → (k : ℕ) (row : Row) → slice_get rows k ≡ Some row
    → (r : rest.Row) × (slice_get rs k ≡ Some r) × IsInNotes notes row r
noted_row notes [] [] h k row found = cc
noted_row notes (x ∷ xs) (r ∷ rs) h zero row found = let same : x ≡ row = cc in (r, refl, subst (λ (y : Row). IsInNotes notes y r) same h.0)
noted_row notes (x ∷ xs) (r ∷ rs) h (suc k) row found = noted_row notes xs rs h.1 k row found
noted_row notes [] (r ∷ rs) h k row found = absurd h
noted_row notes (x ∷ xs) [] h k row found = absurd h

pub row_noted : (notes : BTreeMap ℕ RowNote) (rows : List Row) (rs : List rest.Row) → AreNoted notes rows rs → (k : ℕ) (r : rest.Row) → slice_get rs k ≡ Some r
    → (row : Row) × (slice_get rows k ≡ Some row) × IsInNotes notes row r
row_noted notes [] [] h k r found = cc
row_noted notes (x ∷ xs) (q ∷ rs) h zero r found = let same : q ≡ r = cc in (x, refl, subst (λ (y : rest.Row). IsInNotes notes x y) same h.0)
row_noted notes (x ∷ xs) (q ∷ rs) h (suc k) r found = row_noted notes xs rs h.1 k r found
row_noted notes [] (q ∷ rs) h k r found = absurd h
row_noted notes (x ∷ xs) [] h k r found = absurd h

no_row : (notes : BTreeMap ℕ RowNote) (rows : List Row) (rs : List rest.Row) → AreNoted notes rows rs → (k : ℕ) → slice_get rows k ≡ None → slice_get rs k ≡ None
no_row notes [] [] h k found = refl
no_row notes (x ∷ xs) (r ∷ rs) h zero found = cc
no_row notes (x ∷ xs) (r ∷ rs) h (suc k) found = no_row notes xs rs h.1 k found
no_row notes [] (r ∷ rs) h k found = absurd h
no_row notes (x ∷ xs) [] h k found = absurd h

-- ---- a list without one place

at-some : (rs : List rest.Row) (at j : ℕ) (r : rest.Row) → slice_get (remove rs at) j ≡ Some r → (k : ℕ) × (slice_get rs k ≡ Some r)
at-some rs at j r h = elim (left_at rs at j r h) [ inl e ↦ (j, e.0) | inr e ↦ (suc j, e.0) ]

in-at : (rs : List rest.Row) (k : ℕ) (r : rest.Row) → slice_get rs k ≡ Some r → In r rs
in-at [] k r h = cc
in-at (x ∷ xs) zero r h = inl (cc)
in-at (x ∷ xs) (suc k) r h = inr (in-at xs k r h)

at-left : (rs : List rest.Row) (at k : ℕ) (r one : rest.Row) → slice_get rs k ≡ Some r → slice_get rs at ≡ Some one → (r ≡ one → ⊥) → In r (remove rs at)
at-left [] at k r one h g differ = cc
at-left (x ∷ xs) zero zero r one h g differ = absurd (differ (cc))
at-left (x ∷ xs) zero (suc k) r one h g differ = in-at xs k r h
at-left (x ∷ xs) (suc at) zero r one h g differ = inl (cc)
at-left (x ∷ xs) (suc at) (suc k) r one h g differ = inr (at-left xs at k r one h g differ)

any-found : (p : Row → Bool) (xs : List Row) → list_any p xs ≡ true → (k : ℕ) × (x : Row) × (slice_get xs k ≡ Some x) × (p x ≡ true)
any-found p [] h = cc
any-found p (y ∷ ys) h = elim (or_true (p y) (list_any p ys) h) [ inl here ↦ (0, y, refl, here) | inr later ↦ (let f = any-found p ys later in (suc f.0, f.1, f.2, f.3)) ]

found-any : (p : Row → Bool) (xs : List Row) (k : ℕ) (x : Row) → slice_get xs k ≡ Some x → p x ≡ true → list_any p xs ≡ true
found-any p [] k x h e = cc
found-any p (y ∷ ys) zero x h e = let same : y ≡ x = cc in or_left (p y) (list_any p ys) (ap p same ∙ e)
found-any p (y ∷ ys) (suc k) x h e = or_right (p y) (list_any p ys) (found-any p ys k x h e)

-- ---- notes and nodes

pub documents-noted : (o : Option RowNote) (note : RowNote) → whole_in o ≡ Some note → documents_in o ≡ Some note.documents
documents-noted None note h = cc
documents-noted (Some n) note h = by_test n.whole refl h
  where
    by_test : (t : Bool) → n.whole ≡ t → (if t then Some n else None) ≡ Some note → (if n.whole then Some n.documents else None) ≡ Some note.documents
    by_test true e f = let same : n ≡ note = cc in ap (λ (u : Bool). if u then Some n.documents else None) e ∙ ap (λ (m : RowNote). Some m.documents) same
    by_test false e f = cc

same-nodes : (a b : Option ℕ) → is_same_node a b ≡ turns.is_same_node a b
same-nodes None None = refl
same-nodes None (Some n) = refl
same-nodes (Some m) None = refl
same-nodes (Some m) (Some n) = refl

-- of a first half the sibling is the second
pub second_is : (b : Low) → IsBucket b → 1 < b.bits → b ≡ first_child (parent_of b) → second_child (parent_of b) ≡ sibling_of b
second_is b ok more first = elim (children_of_parent b ok more) [ inl e ↦ e.1 | inr e ↦ absurd (sibling_differs b (first ∙ e.0)) ]

module _ (v : View) (s : Settings) (list : List Low) (notes : BTreeMap ℕ RowNote) (w : World) (most : s.split_at ≡ (v.rules).split_at) (lane : s.lane_bits ≡ (v.lane).bits) where
  -- ---- the tests of a pair

  module _ (bits : ℕ) (row other : Row) (na nb : RowNote) (sa sb : ℕ → Shape) (wa : whole_in (note_for row.bucket notes) ≡ Some na) (wb : whole_in (note_for other.bucket notes) ≡ Some nb) (valid : IsBucket row.bucket) where
    abbrev a : rest.Row
    a = row_with sa (Some na) row

    abbrev b : rest.Row
    b = row_with sb (Some nb) other

    joins-of : row.deleting ≡ None → 1 < bits → (k : ℕ) → slice_get v.rows k ≡ Some other → is_pair s bits a b ≡ true → does_join v notes bits row ≡ true
    joins-of quiet more k beside h =
        let can = pair-can s bits a b h in
        let c = can.0 in
        let e_bits : row.bucket.bits ≡ bits = can.1 in
        let above : 1 < row.bucket.bits = omega (arith, more, e_bits) in
        let other_is : other.bucket ≡ sibling_of row.bucket = c.second ∙ second_is row.bucket valid above c.first in
        let within : s.lane_bits ≤ row.bucket.bits - 1 = c.within in
        let inside : (v.lane).bits < row.bucket.bits = omega (arith, within, above, lane) in
        let first : is_first_half row.bucket ≡ true = subst (λ (x : Low). same_bucket row.bucket x ≡ true) c.first (same-refl row.bucket) in
        let active : is_same_node row.active other.active ≡ true = subst (λ (o : Option ℕ). is_same_node row.active o ≡ true) c.active (node-refl row.active) in
        let free : not (is_some row.deleting && is_some other.deleting) ≡ true = ap (λ (o : Option Delete). not (is_some o && is_some other.deleting)) quiet in
        let sibling : is_sibling row other ≡ true = and_true (same_bucket other.bucket (sibling_of row.bucket)) (is_same_node row.active other.active && not (is_some row.deleting && is_some other.deleting))
        (subst (λ (x : Low). same_bucket other.bucket x ≡ true) other_is (same-refl other.bucket))
        (and_true (is_same_node row.active other.active) (not (is_some row.deleting && is_some other.deleting)) active free) in
        let can_be : can_join v.lane v.rows row ≡ true = and_true (nat_lt (v.lane).bits row.bucket.bits) (list_any (is_sibling row) v.rows) (lt-to (v.lane).bits row.bucket.bits inside)
        (found-any (is_sibling row) v.rows k other beside sibling) in
        let few : na.documents + nb.documents ≤ (v.rules).split_at / 2 = subst (λ (m : ℕ). na.documents + nb.documents ≤ m / 2) most c.few in
        let small : are_small notes row.bucket (v.rules).split_at ≡ true =
        ap₂ (λ (x y : Option ℕ). are_few x y (v.rules).split_at) (documents-noted (note_for row.bucket notes) na wa)
        (ap (λ (x : Low). documents_in (note_for x notes)) (sym other_is) ∙ documents-noted (note_for other.bucket notes) nb wb)
        ∙ le-to (na.documents + nb.documents) ((v.rules).split_at / 2) few in
        and_true (row.bucket.bits == bits && nat_lt 1 bits) (is_first_half row.bucket && (can_join v.lane v.rows row && are_small notes row.bucket (v.rules).split_at))
        (and_true (row.bucket.bits == bits) (nat_lt 1 bits) (eq-eqb row.bucket.bits bits e_bits) (lt-to 1 bits more))
        (and_true (is_first_half row.bucket) (can_join v.lane v.rows row && are_small notes row.bucket (v.rules).split_at) first
        (and_true (can_join v.lane v.rows row) (are_small notes row.bucket (v.rules).split_at) can_be small))

    pair-of : does_join v notes bits row ≡ true → is_sibling row other ≡ true → is_pair s bits a b ≡ true
    pair-of h g =
        let x = both (row.bucket.bits == bits && nat_lt 1 bits) (is_first_half row.bucket && (can_join v.lane v.rows row && are_small notes row.bucket (v.rules).split_at)) h in
        let y = both (row.bucket.bits == bits) (nat_lt 1 bits) x.0 in
        let z = both (is_first_half row.bucket) (can_join v.lane v.rows row && are_small notes row.bucket (v.rules).split_at) x.1 in
        let u = both (can_join v.lane v.rows row) (are_small notes row.bucket (v.rules).split_at) z.1 in
        let inside = lt-of (v.lane).bits row.bucket.bits (both (nat_lt (v.lane).bits row.bucket.bits) (list_any (is_sibling row) v.rows) u.0).0 in
        let e_bits : row.bucket.bits ≡ bits = eqb-true row.bucket.bits bits y.0 in
        let more = lt-of 1 bits y.1 in
        let above : 1 < row.bucket.bits = omega (arith, more, e_bits) in
        let first : row.bucket ≡ first_child (parent_of row.bucket) = bucket-same row.bucket (first_child (parent_of row.bucket)) z.0 in
        let i = both (same_bucket other.bucket (sibling_of row.bucket)) (is_same_node row.active other.active && not (is_some row.deleting && is_some other.deleting)) g in
        let other_is : other.bucket ≡ sibling_of row.bucket = bucket-same other.bucket (sibling_of row.bucket) i.0 in
        let small : are_few (Some na.documents) (Some nb.documents) (v.rules).split_at ≡ true =
        sym (ap₂ (λ (x y : Option ℕ). are_few x y (v.rules).split_at) (documents-noted (note_for row.bucket notes) na wa)
        (ap (λ (x : Low). documents_in (note_for x notes)) (sym other_is) ∙ documents-noted (note_for other.bucket notes) nb wb))
        ∙ u.1 in
        can-pair s bits a b (record {
          first = first;
          second = other_is ∙ sym (second_is row.bucket valid above first);
          within = (let l : s.lane_bits ≤ row.bucket.bits - 1 = omega (arith, inside, lane) in l);
          active = node-same row.active other.active (both (is_same_node row.active other.active) (not (is_some row.deleting && is_some other.deleting)) i.1).0;
          few = subst (λ (m : ℕ). na.documents + nb.documents ≤ m / 2) (sym most) (le-of (na.documents + nb.documents) ((v.rules).split_at / 2) small);
        }) e_bits

  module _ (h : AreRows v.lane (buckets_of v.rows)) (are : AreNoted notes v.rows w.rows) (t : Time) (bits at : ℕ) (more : 1 < bits) where
    -- ---- the next level

    fewer-same : turns.fewer_bits (time_of list t) bits w ≡ stand (doing_of list (fewer_bits v t bits)) w
    fewer-same = by_test (nat_le bits 2)
      where
        end-same : (u : Time) → turns.end_joins (time_of list u) w ≡ stand (doing_of list (end_joins u)) w
        end-same First = refl
        end-same Again = refl

        by_test : (x : Bool) → (if x then turns.end_joins (time_of list t) w else stand (turns.Joining (time_of list t) (bits - 1) (fewer (bits - 1) w.rows)) w)
            ≡ stand (doing_of list (if x then end_joins t else Joining t (bits - 1) (first_with (bits - 1) v.rows))) w
        by_test true = end-same t
        by_test false = ap (λ (k : ℕ). stand (turns.Joining (time_of list t) (bits - 1) k) w) (sym (levels_same v.lane (bits - 1) v.rows w.rows h (of_buckets notes v.rows w.rows are)))

    abbrev turn-on : Bool → Option rest.Row → Stand
    turn-on x o = if x then by_row o (turns.fewer_bits (time_of list t) bits w) (join_at s (time_of list t) bits at w) else turns.fewer_bits (time_of list t) bits w

    none-on : (x : Bool) → turn-on x None ≡ turns.fewer_bits (time_of list t) bits w
    none-on true = refl
    none-on false = refl

    -- ---- a row

    module _ (row : Row) (found : slice_get v.rows at ≡ Some row) where
      valid-row : IsBucket row.bucket
      valid-row = valid_at (buckets_of v.rows) at row.bucket h.valid (bucket_at v.rows at row found)

      level-is : nat_lt at (fewer (bits + 1) w.rows) ≡ nat_lt row.bucket.bits (bits + 1)
      level-is = level_of v.lane (bits + 1) v.rows w.rows h (of_buckets notes v.rows w.rows are) at row found

      module _ (r : rest.Row) (seen : slice_get w.rows at ≡ Some r) (noted : IsInNotes notes row r) (here : nat_lt at (fewer (bits + 1) w.rows) ≡ true) where
        abbrev turn-by : Option rest.Row → Stand
        turn-by o = by_row o (stand (turns.Joining (time_of list t) bits (suc at)) w) (λ b.
            stand (turns.JoinTold (time_of list t) bits at (parent_of r.bucket) 0)
            (record { nodes = w.nodes; rows = with_row (merged (parent_of r.bucket) r b) (without_pair at (place_beside s bits at r w.rows) w.rows) }))

        turn-is : turn_at s (turns.Joining (time_of list t) bits at) w ≡ turn-by (slice_get (remove w.rows at) (place_beside s bits at r w.rows))
        turn-is = ap₂ turn-on here seen

        -- there is a pair where the machine joins one
        pair-there : does_join v notes bits row ≡ true → slice_get (remove w.rows at) (place_beside s bits at r w.rows) ≡ None → ⊥
        pair-there joins none =
            let x = both (row.bucket.bits == bits && nat_lt 1 bits) (is_first_half row.bucket && (can_join v.lane v.rows row && are_small notes row.bucket (v.rules).split_at)) joins in
            let z = both (is_first_half row.bucket) (can_join v.lane v.rows row && are_small notes row.bucket (v.rules).split_at) x.1 in
            let u = both (can_join v.lane v.rows row) (are_small notes row.bucket (v.rules).split_at) z.1 in
            let f = any-found (is_sibling row) v.rows (both (nat_lt (v.lane).bits row.bucket.bits) (list_any (is_sibling row) v.rows) u.0).1 in
            let q = noted_row notes v.rows w.rows are f.0 f.1 f.2 in
            let sibling : (f.1).bucket ≡ sibling_of row.bucket =
            bucket-same (f.1).bucket (sibling_of row.bucket) (both (same_bucket (f.1).bucket (sibling_of row.bucket)) (is_same_node row.active (f.1).active && not (is_some row.deleting && is_some (f.1).deleting)) f.3).0 in
            let pair : is_pair s bits r q.0 ≡ true = ap₂ (λ (x y : rest.Row). is_pair s bits x y) noted.same (q.2).same
            ∙ pair-of bits row f.1 noted.note (q.2).note noted.shown (q.2).shown noted.whole (q.2).whole valid-row joins f.3 in
            let among : In q.0 (remove w.rows at) = at-left w.rows at f.0 q.0 r q.1 seen (λ e.
            sibling_differs row.bucket (sym (ap (λ (x : rest.Row). x.bucket) noted.same) ∙ (sym (ap (λ (x : rest.Row). x.bucket) e) ∙ (ap (λ (x : rest.Row). x.bucket) (q.2).same ∙ sibling)))) in
            clash pair (where-none (is_pair s bits r) (remove w.rows at) none q.0 among)

        -- it joins where there is a pair
        joins-there : (two : rest.Row) → slice_get (remove w.rows at) (place_beside s bits at r w.rows) ≡ Some two → does_join v notes bits row ≡ true
        joins-there two beside =
            let k = at-some w.rows at (place_beside s bits at r w.rows) two beside in
            let q = row_noted notes v.rows w.rows are k.0 two k.1 in
            let pair = where-found (is_pair s bits r) (remove w.rows at) two beside in
            joins-of bits row q.0 noted.note (q.2).note noted.shown (q.2).shown noted.whole (q.2).whole valid-row noted.quiet more k.0 q.1
            (sym (ap₂ (λ (x y : rest.Row). is_pair s bits x y) noted.same (q.2).same) ∙ pair)

        parent-same : parent_of r.bucket ≡ parent_of row.bucket
        parent-same = ap (λ (x : rest.Row). parent_of x.bucket) noted.same

        joined-at : (two : rest.Row) → slice_get (remove w.rows at) (place_beside s bits at r w.rows) ≡ Some two → IsPairJoined s list w t bits at (RowsJoined (parent_of row.bucket))
        joined-at two beside =
            let can = (pair-can s bits r two (where-found (is_pair s bits r) (remove w.rows at) two beside)).0 in
            let other = place_beside s bits at r w.rows in
            record {
              one = r;
              two = two;
              other = other;
              found = seen;
              beside = beside;
              first = can.first;
              second = can.second;
              decision = ap (λ (p : Low). RowsJoined p) (sym parent-same);
              turn = turn-is ∙ (ap turn-by beside
                  ∙ ap (λ (p : Low). stand (turns.JoinTold (time_of list t) bits at p 0) (record { nodes = w.nodes; rows = with_row (merged (parent_of r.bucket) r two) (without_pair at other w.rows) })) parent-same);
            }

        pairs-by : (x : Bool) → does_join v notes bits row ≡ x → (o : Option rest.Row) → slice_get (remove w.rows at) (place_beside s bits at r w.rows) ≡ o
            → Pairs s list w t bits at (if x then Says (step.Decide at (RowsJoined (parent_of row.bucket))) else Over (Joining t bits (at + 1)))
        pairs-by true e None f = absurd (pair-there e f)
        pairs-by true e (Some two) f = (refl, joined-at two f)
        pairs-by false e None f = turn-is ∙ (ap turn-by f ∙ ap (λ (k : ℕ). stand (turns.Joining (time_of list t) bits k) w) (next-one at))
        pairs-by false e (Some two) f = clash (joins-there two f) e

      row-pairs : (x : Bool) → nat_lt bits row.bucket.bits ≡ x
          → Pairs s list w t bits at (if x then Over (fewer_bits v t bits) else (if does_join v notes bits row then Says (step.Decide at (RowsJoined (parent_of row.bucket))) else Over (Joining t bits (at + 1))))
      row-pairs true e =
          let past : nat_lt row.bucket.bits (bits + 1) ≡ false = ge-to row.bucket.bits (bits + 1) (let l = lt-of bits row.bucket.bits e in omega (arith, l)) in
          ap (λ (x : Bool). turn-on x (slice_get w.rows at)) (level-is ∙ past) ∙ fewer-same
      row-pairs false e =
          let r = noted_row notes v.rows w.rows are at row found in
          let still : nat_lt row.bucket.bits (bits + 1) ≡ true = lt-to row.bucket.bits (bits + 1) (let l = ge-of bits row.bucket.bits e in omega (arith, l)) in
          pairs-by r.0 r.1 r.2 (level-is ∙ still) (does_join v notes bits row) refl (slice_get (remove w.rows at) (place_beside s bits at r.0 w.rows)) refl

    pub join_pairs : Pairs s list w t bits at (joining v notes t bits at (slice_get v.rows at))
    join_pairs = by-place (slice_get v.rows at) refl
      where
        by-place : (o : Option Row) → slice_get v.rows at ≡ o → Pairs s list w t bits at (joining v notes t bits at o)
        by-place None e = ap (λ (o : Option rest.Row). turn-on (nat_lt at (fewer (bits + 1) w.rows)) o) (no_row notes v.rows w.rows are at e) ∙ (none-on (nat_lt at (fewer (bits + 1) w.rows)) ∙ fewer-same)
        by-place (Some row) e = row-pairs row e (nat_lt bits row.bucket.bits) refl
