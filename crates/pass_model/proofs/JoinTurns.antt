-- Turns in which rows are joined.
use Rattle.std.proofs.Common.{◌≡◌, ◌==◌, ◌&&◌, ◌||◌, ◌+◌, ◌-◌, ◌/◌, ◌<◌, ◌≤◌, ℕ, suc, Bool, true, cond, nat_le, nat_lt, List, [], Option, Some, None, slice_get, slice_set, refl, sym, ap, ap₂, ◌∙◌, subst, arith, eqb-true, eq-eqb, inl, inr}
use Rattle.std.specs.List.{remove}
use Rattle.std.proofs.lemmas.Bool.{cases_lt}
use Rattle.std.proofs.lemmas.List.Sums.{count_by-le-length}
use Rattle.bucket_ids.specs.Buckets.{Low, IsBucket, first_child, second_child, parent_of}
use Rattle.bucket_ids.specs.Printed.{number_of}
use Rattle.pieces.specs.Pieces.{same_bucket}
use Rattle.proof_basics.proofs.Tests.{both, and_true, clash}
use Rattle.pieces.proofs.PieceLaws.{bucket-same, same-refl}
use Rattle.pass_model.specs.Nodes.{Node, join_node}
use Rattle.pass_model.specs.Rows.{Settings, Row, round_node, round_row}
use Rattle.pass_model.specs.Passes.{World, AllRows, In, rounds, CanJoin, Joins, NoJoin, NoPair, NoSplit, join_nodes, join_row, merged, to_all, everywhere, nowhere}
use Rattle.pass_model.specs.Resting.{AreSettings}
use Rattle.pass_model.specs.Sweeps.{fewer, with_row, after_join, NoPairAbove, AreJoinedBefore}
use Rattle.proof_basics.proofs.Numbers.{le-of, le-to, ge-of}
use Rattle.pass_model.proofs.Lists.{all-in, in-among, all-among, among-all}
use Rattle.pass_model.proofs.Sweeping.{among-removed, among-placed, before-removed, rises-before}
use Rattle.pass_model.proofs.JoinSweeps.{level-begins, row-stays, level-ends, none-left, join-goes-on}
use Rattle.pass_model.specs.Turns.{Time, First, Again, Joining, JoinTold, JoinRound, stand, is_due, with_made, told, by_row, round_of, place_of, begin_joins, end_joins, fewer_bits, is_same_node, is_pair, place_beside, without_pair, join_at, join_one, join_told, turn_at}
use Rattle.pass_model.specs.Orders.{ActiveServes, AreInOrder}
use Rattle.pass_model.proofs.Walking.{from_node, from-first, from-told, from-end}
use Rattle.pass_model.proofs.RowLists.{all-at, before-at, none-at, get-placed, set-placed, where-found, where-none}
use Rattle.pass_model.proofs.RoundedRows.{IsRounded, round-rounded, not-serving}
use Rattle.pass_model.proofs.OrderedRows.{valid-rows, order-set, parent-valid, parent-is, second-above, order-joined}
use Rattle.pass_model.proofs.Reached.{AllSettled, ToJoin, JoinsNow, IsJoining, IsJoinOf, JoinedRows, Standing}
use Rattle.pass_model.proofs.Standings.{in-row, by-test, by-row}

-- ---- the test of a pair

same-node : (m n : Option ℕ) → is_same_node m n ≡ true → m ≡ n
same-node None None h = refl
same-node (Some m) (Some n) h = ap (λ k. Some k) (eqb-true m n h)
same-node None (Some n) h = cc
same-node (Some m) None h = cc

node-same : (m : Option ℕ) → is_same_node m m ≡ true
node-same None = refl
node-same (Some m) = eq-eqb m m refl

module _ (s : Settings) (bits : ℕ) (a b : Row) where
  pub pair-can : is_pair s bits a b ≡ true → CanJoin s (parent_of a.bucket) a b × (a.bucket.bits ≡ bits)
  pair-can h =
      let p = parent_of a.bucket in
      let few = nat_le (a.documents + b.documents) (s.split_at / 2) in
      let active = is_same_node a.active b.active in
      let within = nat_le s.lane_bits p.bits in
      let second = same_bucket b.bucket (second_child p) in
      let first = same_bucket a.bucket (first_child p) in
      let x = both (a.bucket.bits == bits) (first && (second && (within && (active && few)))) h in
      let y = both first (second && (within && (active && few))) x.1 in
      let z = both second (within && (active && few)) y.1 in
      let u = both within (active && few) z.1 in
      let v = both active few u.1 in (
        record {
          first = bucket-same a.bucket (first_child p) y.0;
          second = bucket-same b.bucket (second_child p) z.0;
          within = le-of s.lane_bits p.bits u.0;
          active = same-node a.active b.active v.0;
          few = le-of (a.documents + b.documents) (s.split_at / 2) v.1;
        },
        eqb-true a.bucket.bits bits x.0,
      )

  pub can-pair : CanJoin s (parent_of a.bucket) a b → a.bucket.bits ≡ bits → is_pair s bits a b ≡ true
  can-pair can is =
      let p = parent_of a.bucket in
      let few = nat_le (a.documents + b.documents) (s.split_at / 2) in
      let active = is_same_node a.active b.active in
      let within = nat_le s.lane_bits p.bits in
      let second = same_bucket b.bucket (second_child p) in
      let first = same_bucket a.bucket (first_child p) in
      let e_first : first ≡ true = subst (λ (c : Low). same_bucket a.bucket c ≡ true) can.first (same-refl a.bucket) in
      let e_second : second ≡ true = subst (λ (c : Low). same_bucket b.bucket c ≡ true) can.second (same-refl b.bucket) in
      let e_active : active ≡ true = subst (λ (o : Option ℕ). is_same_node a.active o ≡ true) can.active (node-same a.active) in
      and_true (a.bucket.bits == bits) (first && (second && (within && (active && few)))) (eq-eqb a.bucket.bits bits is)
      (and_true first (second && (within && (active && few))) e_first
      (and_true second (within && (active && few)) e_second
      (and_true within (active && few) (le-to s.lane_bits p.bits can.within)
      (and_true active few e_active (le-to (a.documents + b.documents) (s.split_at / 2) can.few)))))

module _ (s : Settings) (b : World) where
  -- ---- joins that came so far

  now-goes : (t : Time) (from w : World) (bits at more next : ℕ) → ((made now : Low → Bool) → AreJoinedBefore s from w made now bits at → AreJoinedBefore s from w made now more next) → JoinsNow s b t from w bits at → JoinsNow s b t from w more next
  now-goes First from w bits at more next f j = (j.0, f everywhere j.0 j.1)
  now-goes (Again made) from w bits at more next f j = f nowhere (is_due (Again made)) j

  now-joined : (t : Time) (p : Low) (from w v : World) (bits at next : ℕ) → ((made now : Low → Bool) → AreJoinedBefore s from w made now bits at → AreJoinedBefore s from v made (λ c. same_bucket c p || now c) bits next)
      → JoinsNow s b t from w bits at → JoinsNow s b (with_made p t) from v bits next
  now-joined First p from w v bits at next f j = ((λ c. same_bucket c p || j.0 c), f everywhere j.0 j.1)
  now-joined (Again made) p from w v bits at next f j = f nowhere (is_due (Again made)) j

  now-says : (t : Time) (A : Type 0) (from w : World) (bits at : ℕ) → ((made now : Low → Bool) → AreJoinedBefore s from w made now bits at → A) → JoinsNow s b t from w bits at → A
  now-says First A from w bits at f j = f everywhere j.0 j.1
  now-says (Again made) A from w bits at f j = f nowhere (is_due (Again made)) j

  to-join : (t : Time) (p : Low) (from : World) → ToJoin s b t from → ToJoin s b (with_made p t) from
  to-join First p from o = o
  to-join (Again made) p from o = o

  -- ---- they begin

  most-bits : (w : World) → AreInOrder s w.rows → NoPairAbove s 58 w.rows
  most-bits w order p x y i j can = (all-in (λ (r : Row). IsBucket r.bucket) x w.rows (valid-rows w.rows order.apart) i).most

  pub begins-first : (w : World) → AreInOrder s w.rows → w ≡ rounds s b → AllRows (IsRounded s) w.rows → Standing s b (begin_joins First w)
  begins-first w order is rounded = (
    order,
    record {
      from = w;
      origin = is;
      now = (everywhere, level-begins s w w everywhere everywhere 58 order.apart order.rises (NoJoin w everywhere) (most-bits w order));
      rounded = rounded;
    },
  )

  pub begins-again : (w : World) → AreInOrder s w.rows → AllSettled s b w → AllRows (IsRounded s) w.rows → Standing s b (begin_joins (Again []) w)
  begins-again w order settled rounded = (
    order,
    record {
      from = w;
      origin = settled;
      now = level-begins s w w nowhere nowhere 58 order.apart order.rises (NoJoin w nowhere) (most-bits w order);
      rounded = rounded;
    },
  )

  module _ (sound : AreSettings s) (t : Time) (bits at : ℕ) (w : World) (order : AreInOrder s w.rows) (j : IsJoining s b t bits at w) where
    -- ---- no pair of so many bits is left

    joins-end : (u : Time) (from : World) → ToJoin s b u from → JoinsNow s b u from w bits at → NoPair s w.rows → Standing s b (end_joins u w)
    joins-end First from origin now none = (
      order,
      record {
        joined = w;
        first = record { made = now.0; joins = subst (λ (v : World). Joins s v everywhere w now.0) origin (now.1).joins; no_pair = none };
        now = record { splits = NoSplit w; not_full = tt };
        rounded = j.rounded;
      },
    )
    joins-end (Again made) from origin now none = (
      order,
      record {
        from = w;
        origin = record { before = from; settled = origin; joins = now.joins; no_pair = none };
        left = refl;
        rounded = j.rounded;
      },
    )

    level-over : fewer (bits + 1) w.rows ≤ at → Standing s b (fewer_bits t bits w)
    level-over le = by-test (Standing s b) (nat_le bits 2) (end_joins t w) (stand (Joining t (bits - 1) (fewer (bits - 1) w.rows)) w)
        (λ h. joins-end t j.from j.origin j.now (none-left s w.rows sound.some_bits (λ p x y ix iy can. let less = below p x y ix iy can in let few = le-of bits 2 h in omega (arith, less, few))))
        (λ h. (
          order,
          record {
            from = j.from;
            origin = j.origin;
            now = now-goes t j.from w bits at (bits - 1) (fewer (bits - 1) w.rows)
                (λ made now k. level-begins s j.from w made now (bits - 1) order.apart order.rises k.joins (λ p x y ix iy can. let less = below p x y ix iy can in omega (arith, less))) j.now;
            rounded = j.rounded;
          },
        ))
      where
        below : (p : Low) (x y : Row) → In x w.rows → In y w.rows → CanJoin s p x y → x.bucket.bits < bits
        below = now-says t ((p : Low) (x y : Row) → In x w.rows → In y w.rows → CanJoin s p x y → x.bucket.bits < bits) j.from w bits at (λ made now k. level-ends s j.from w made now bits at k order.apart order.rises le) j.now

    -- ---- a row that is the first of no pair

    stays : (a : Row) → slice_get w.rows at ≡ Some a → slice_get (remove w.rows at) (place_beside s bits at a w.rows) ≡ None → IsJoining s b t bits (suc at) w
    stays a found none = record {
      from = j.from;
      origin = j.origin;
      now = now-goes t j.from w bits at bits (suc at) (λ made now k. row-stays s j.from w made now bits at a k found no_pair) j.now;
      rounded = j.rounded;
    }
      where
        no_pair : (p : Low) (y : Row) → In y w.rows → CanJoin s p a y → a.bucket.bits ≡ bits → ⊥
        no_pair p y i can is =
            let valid = all-in (λ (r : Row). IsBucket r.bucket) y w.rows (valid-rows w.rows order.apart) i in
            let up = second-above s sound p a y can valid in
            elim (in-among y a w.rows (remove w.rows at) (among-removed w.rows at a found) i) [
              | inl same ↦ (let e : number_of y.bucket ≡ number_of a.bucket = ap (λ (r : Row). number_of r.bucket) same in absurd (omega (arith, up, e)))
              | inr beside ↦ clash (can-pair s bits a y (subst (λ (q : Low). CanJoin s q a y) (sym (parent-is s sound p a y can valid)) can) is)
                  (where-none (is_pair s bits a) (remove w.rows at) none y beside)
            ]

    -- ---- a pair

    module _ (a two : Row) (found : slice_get w.rows at ≡ Some a) (beside : slice_get (remove w.rows at) (place_beside s bits at a w.rows) ≡ Some two) where
      abbrev place : ℕ
      place = place_beside s bits at a w.rows

      can-join : CanJoin s (parent_of a.bucket) a two × (a.bucket.bits ≡ bits)
      can-join = pair-can s bits a two (where-found (is_pair s bits a) (remove w.rows at) two beside)

      valid-two : IsBucket two.bucket
      valid-two = all-at (λ (r : Row). IsBucket r.bucket) (remove w.rows at) (place_beside s bits at a w.rows) two beside
          (all-among (λ (r : Row). IsBucket r.bucket) a w.rows (remove w.rows at) (valid-rows w.rows order.apart) (among-removed w.rows at a found)).1

      -- the second half stands behind the first
      second-behind : at ≤ place_beside s bits at a w.rows
      second-behind = elim (cases_lt place at) [
        | inl less ↦
            (let low = before-at (λ (r : Row). number_of r.bucket ≤ number_of a.bucket) (remove w.rows at) at place two
            (before-removed (λ (r : Row). number_of r.bucket ≤ number_of a.bucket) at w.rows (rises-before 0 at w.rows a order.rises found)) less beside in
            let up = second-above s sound (parent_of a.bucket) a two can-join.0 valid-two in
            absurd (omega (arith, low, up)))
        | inr more ↦ more
      ]

      abbrev join-of : IsJoinOf s b t bits at (parent_of a.bucket)
      join-of = record {
        before = w;
        joining = j;
        order = order;
        one = a;
        two = two;
        other = place;
        found = found;
        beside = beside;
        can = can-join.0;
        bits_are = can-join.1;
        behind = second-behind;
        valid = parent-valid s sound (parent_of a.bucket) a two can-join.0 valid-two;
      }

      joins-pair : Standing s b (stand (JoinTold t bits at (parent_of a.bucket) 0) (record { nodes = w.nodes; rows = with_row (merged (parent_of a.bucket) a two) (without_pair at place w.rows) }))
      joins-pair = (
        order-joined s sound (parent_of a.bucket) a two can-join.0 valid-two w.rows at place found beside order,
        (join-of, refl, from-first (join_one s (parent_of a.bucket)) w.nodes),
      )

    pub joins-next : Standing s b (turn_at s (Joining t bits at) w)
    joins-next = by-test (Standing s b) (nat_lt at (fewer (bits + 1) w.rows)) (by_row (slice_get w.rows at) (fewer_bits t bits w) (join_at s t bits at w)) (fewer_bits t bits w)
        (λ h. by-row (Standing s b) (slice_get w.rows at) (fewer_bits t bits w) (join_at s t bits at w)
        (λ none. level-over (let all = none-at w.rows at none in let most = count_by-le-length (λ (r : Row). nat_lt r.bucket.bits (bits + 1)) w.rows in omega (arith, all, most)))
        (λ a found. by-row (Standing s b) (slice_get (remove w.rows at) (place_beside s bits at a w.rows)) (stand (Joining t bits (suc at)) w)
        (λ two. stand (JoinTold t bits at (parent_of a.bucket) 0) (record { nodes = w.nodes; rows = with_row (merged (parent_of a.bucket) a two) (without_pair at (place_beside s bits at a w.rows) w.rows) }))
        (λ none. (order, stays a found none))
        (λ two beside. joins-pair a two found beside)))
        (λ h. level-over (ge-of at (fewer (bits + 1) w.rows) h))

  -- ---- the nodes are told, and there is a round of the parent

  module _ (sound : AreSettings s) (t : Time) (bits at : ℕ) (p : Low) (w : World) (order : AreInOrder s w.rows) (j : IsJoinOf s b t bits at p) (rows : JoinedRows s b j w.rows) where
    pub tells-join : (k : ℕ) → from_node k (join_one s p) w.nodes ≡ to_all s (join_node p) j.before.nodes → Standing s b (join_told s t bits at p k w)
    tells-join k are = by-test (Standing s b) (nat_lt k 32) (stand (JoinTold t bits at p (suc k)) (told k (join_one s p) w)) (stand (JoinRound t bits at p) w)
        (λ h. (order, (j, rows, sym (from-told k (join_one s p) w.nodes) ∙ are)))
        (λ h. (order, (j, rows, sym (from-end k (join_one s p) w.nodes (out (ge-of k 32 h))) ∙ are)))
      where
        out : 32 ≤ k → (n : ℕ) → k ≤ n → (x : Node) → join_one s p n x ≡ x
        out all n le x = ap (λ u. cond u (join_node p x) x) (not-serving s sound n (omega (arith, all, le)))

    abbrev parent : Row
    parent = merged p j.one j.two

    abbrev rest : List Row
    rest = without_pair at j.other j.before.rows

    abbrev nodes_before : ℕ → Node
    nodes_before = j.before.nodes

    parent-found : slice_get w.rows (place_of p w.rows) ≡ Some (merged p j.one j.two)
    parent-found = subst (λ (rs : List Row). slice_get rs (place_of p rs) ≡ Some parent) (sym rows) (get-placed parent rest)

    abbrev rounded_with : (ℕ → Node) → List Row → World
    rounded_with ns rs = record { nodes = round_node s parent ns; rows = slice_set rs (place_of p rs) (round_row s parent ns) }

    round-joins : w.nodes ≡ to_all s (join_node p) j.before.nodes → round_of s (place_of p w.rows) (merged p j.one j.two) w ≡ after_join s p j.one j.two at j.other j.before
    round-joins are = ap₂ rounded_with are rows
        ∙ ap (λ (rs : List Row). record { nodes = join_nodes s p j.one j.two nodes_before; rows = rs }) (set-placed parent (join_row s p j.one j.two nodes_before) rest refl)

    joined-rounded : AllRows (IsRounded s) (after_join s p j.one j.two at j.other j.before).rows
    joined-rounded =
        let q = join_row s p j.one j.two nodes_before in
        let some = remove j.before.rows at in
        let x = all-among (IsRounded s) j.one j.before.rows some j.joining.rounded (among-removed j.before.rows at j.one j.found) in
        let y = all-among (IsRounded s) j.two some rest x.1 (among-removed some j.other j.two j.beside) in
        among-all (IsRounded s) q (with_row q rest) rest (round-rounded s parent (to_all s (join_node p) nodes_before)) y.1 (among-placed q rest)

    joined-now : IsJoining s b (with_made p t) bits (suc at) (after_join s p j.one j.two at j.other j.before)
    joined-now = record {
      from = j.joining.from;
      origin = to-join t p j.joining.from j.joining.origin;
      now = now-joined t p j.joining.from j.before (after_join s p j.one j.two at j.other j.before) bits at (suc at)
          (λ made now k. join-goes-on s j.before at j.other p j.one j.two j.found j.beside j.can bits j.bits_are j.behind j.order.apart j.order.rises j.valid j.joining.from made now k) j.joining.now;
      rounded = joined-rounded;
    }

    pub rounds-join : w.nodes ≡ to_all s (join_node p) j.before.nodes → Standing s b (turn_at s (JoinRound t bits at p) w)
    rounds-join are = in-row (Standing s b) (slice_get w.rows (place_of p w.rows)) (stand (Joining (with_made p t) bits (suc at)) w) (λ r. stand (Joining (with_made p t) bits (suc at)) (round_of s (place_of p w.rows) r w)) parent parent-found (
      order-set s w.rows (place_of p w.rows) parent (round_row s parent w.nodes) parent-found refl (all-at (ActiveServes s) w.rows (place_of p w.rows) parent parent-found order.serve) order,
      subst (λ (v : World). IsJoining s b (with_made p t) bits (suc at) v) (sym (round-joins are)) joined-now,
    )
