-- Sweeps through the rows of falling bits, in rising number, leave no pair to be joined.
use Rattle.std.proofs.Common.{◌≡◌, ◌||◌, ℕ, zero, suc, ◌+◌, ◌<◌, ◌≤◌, Bool, true, false, nat_lt, List, [], ◌∷◌, cond, Some, inl, inr, ◌⊎◌, refl, sym, ap, ◌∙◌, subst, slice_get, arith, pow_pos}
use Rattle.std.specs.List.{remove}
use Rattle.std.proofs.lemmas.Bool.{cases_lt}
use Rattle.std.proofs.lemmas.Bool.Decides.{nat_tests}
use Rattle.bucket_ids.specs.Buckets.{Low, IsBucket, first_child, second_child}
use Rattle.bucket_ids.specs.Printed.{number_of}
use Rattle.proof_basics.proofs.Lists.{one_if}
use Rattle.pieces.specs.Pieces.{same_bucket, meets}
use Rattle.pass_model.specs.Rows.{Settings, Row}
use Rattle.pass_model.specs.Passes.{World, AllRows, Among, In, CanJoin, Joins, NoJoin, MoreJoins, NoPair, join_nodes, join_row}
use Rattle.pass_model.specs.Resting.{AreApart}
use Rattle.pass_model.specs.Sweeps.{Rises, with_row, fewer, from_place, after_join, NoPairAbove, AreJoinedBefore}
use Rattle.pieces.proofs.PieceLaws.{meets-refl}
use Rattle.pass_model.proofs.Lists.{none-in, in-among, among-rest, apart-among}
use Rattle.pass_model.proofs.Sweeping.{among-removed, among-placed, rises-least, bits-rise, fewer-placed, fewer-removed, place-fewer, place-more}
use Rattle.pass_model.proofs.SplitSweeps.{above}

-- ---- rows from a place on

place-in : (x : Row) (rows : List Row) → In x rows → (j : ℕ) × (slice_get rows j ≡ Some x)
place-in x [] i = absurd i
place-in x (r ∷ rs) (inl e) = (0, ap (λ (y : Row). Some y) (sym e))
place-in x (r ∷ rs) (inr i) = let z = place-in x rs i in (suc z.0, z.1)

in-place : (x : Row) (rows : List Row) (j : ℕ) → slice_get rows j ≡ Some x → In x rows
in-place x [] j h = cc
in-place x (r ∷ rs) zero h = let same : r ≡ x = cc in inl (sym same)
in-place x (r ∷ rs) (suc j) h = inr (in-place x rs j h)

from-at : (at j : ℕ) (x : Row) (rows : List Row) → slice_get rows j ≡ Some x → at ≤ j → In x (from_place at rows)
from-at zero j x rows h le = in-place x rows j h
from-at (suc at) j x [] h le = cc
from-at (suc at) zero x (r ∷ rs) h le = absurd (omega arith)
from-at (suc at) (suc j) x (r ∷ rs) h le = from-at at j x rs h (omega arith)

at-from : (at : ℕ) (x : Row) (rows : List Row) → In x (from_place at rows) → (j : ℕ) × (at ≤ j) × (slice_get rows j ≡ Some x)
at-from zero x rows i = let z = place-in x rows i in (z.0, omega arith, z.1)
at-from (suc at) x [] i = absurd i
at-from (suc at) x (r ∷ rs) i = let z = at-from at x rs i in (suc z.0, (let le = z.1 in omega (arith, le)), z.2)

from-next : (at : ℕ) (rows : List Row) (r x : Row) → slice_get rows at ≡ Some r → In x (from_place at rows) → (x ≡ r) ⊎ In x (from_place (suc at) rows)
from-next at [] r x h i = cc
from-next zero (q ∷ qs) r x h (inl e) = let same : q ≡ r = cc in inl (e ∙ same)
from-next zero (q ∷ qs) r x h (inr i) = inr i
from-next (suc at) (q ∷ qs) r x h i = from-next at qs r x h i

from-removed : (at : ℕ) (rows : List Row) → from_place at (remove rows at) ≡ from_place (suc at) rows
from-removed zero [] = refl
from-removed zero (r ∷ rs) = refl
from-removed (suc at) [] = refl
from-removed (suc at) (r ∷ rs) = from-removed at rs

in-removed : (at k : ℕ) (rows : List Row) (b x : Row) → at ≤ k → slice_get rows k ≡ Some b → In x (from_place at rows) → (x ≡ b) ⊎ In x (from_place at (remove rows k))
in-removed zero k rows b x le h i = in-among x b rows (remove rows k) (among-removed rows k b h) i
in-removed (suc at) k [] b x le h i = cc
in-removed (suc at) zero (r ∷ rs) b x le h i = absurd (omega arith)
in-removed (suc at) (suc k) (r ∷ rs) b x le h i = in-removed at k rs b x (omega arith) h i

-- a row that comes before the place moves what stands from there on by one
from-placed : (x : Row) (at : ℕ) (rows : List Row) → ((r : Row) → slice_get rows at ≡ Some r → number_of x.bucket ≤ number_of r.bucket) → from_place (suc at) (with_row x rows) ≡ from_place at rows
from-placed x zero [] h = refl
from-placed x (suc at) [] h = refl
from-placed x zero (y ∷ ys) h = by_test (nat_lt (number_of y.bucket) (number_of x.bucket)) (more (number_of x.bucket) (number_of y.bucket) (h y refl))
  where
    more : (m n : ℕ) → m ≤ n → nat_lt n m ≡ false
    more m n le = grind (arith, nat_tests)

    by_test : (t : Bool) → t ≡ false → from_place 1 (cond t (y ∷ with_row x ys) (x ∷ y ∷ ys)) ≡ y ∷ ys
    by_test true e = cc
    by_test false e = refl
from-placed x (suc at) (y ∷ ys) h = by_test (nat_lt (number_of y.bucket) (number_of x.bucket)) (from-placed x at ys h)
  where
    by_test : (t : Bool) → from_place (suc at) (with_row x ys) ≡ from_place at ys → from_place (suc (suc at)) (cond t (y ∷ with_row x ys) (x ∷ y ∷ ys)) ≡ from_place (suc at) (y ∷ ys)
    by_test true e = e
    by_test false e = refl

rises-from : (at j least : ℕ) (rows : List Row) (r x : Row) → Rises least rows → slice_get rows at ≡ Some r → slice_get rows j ≡ Some x → at ≤ j → number_of r.bucket ≤ number_of x.bucket
rises-from at j least [] r x h e f le = cc
rises-from zero j least (q ∷ qs) r x h e f le = let same : q ≡ r = cc in subst (λ (y : Row). number_of y.bucket ≤ number_of x.bucket) same (rises-least (number_of q.bucket) j (q ∷ qs) x (omega arith, h.1) f)
rises-from (suc at) zero least (q ∷ qs) r x h e f le = absurd (omega arith)
rises-from (suc at) (suc j) least (q ∷ qs) r x h e f le = rises-from at j (number_of q.bucket) qs r x h.1 e f (omega arith)

apart-valid : (rows : List Row) → AreApart rows → AllRows (λ r. IsBucket r.bucket) rows
apart-valid [] a = tt
apart-valid (r ∷ rs) a = (a.1, apart-valid rs a.2)

module _ (s : Settings) where
  pub joins-then : (a b c : World) (i j k : Low → Bool) → Joins s a i b j → Joins s b j c k → Joins s a i c k
  joins-then a b c i j k (NoJoin w l) m = m
  joins-then a b c i j k (MoreJoins ns rows some rest after l p x y end z ma mb can new more) m =
      MoreJoins ns rows some rest after l p x y c k ma mb can new (joins-then (record { nodes = join_nodes s p x y ns; rows = after }) b c (λ d. same_bucket d p || l d) j k more m)

  bits-first : (p : Low) (a b : Row) → CanJoin s p a b → a.bucket.bits ≡ p.bits + 1
  bits-first p a b can = ap (λ (c : Low). c.bits) can.first

  bits-second : (p : Low) (a b : Row) → CanJoin s p a b → b.bucket.bits ≡ p.bits + 1
  bits-second p a b can = ap (λ (c : Low). c.bits) can.second

  -- ---- the places of one number of bits

  -- all places are still to come
  pub level-begins : (before w : World) (made now : Low → Bool) (bits : ℕ) → AreApart w.rows → Rises 0 w.rows → Joins s before made w now → NoPairAbove s bits w.rows → AreJoinedBefore s before w made now bits (fewer bits w.rows)
  level-begins before w made now bits parted rises joins none = record { joins = joins; above = none; behind = λ p a b i j can is. at-least a is (place-in a w.rows i) }
    where
      at-least : (a : Row) → a.bucket.bits ≡ bits → (j : ℕ) × (slice_get w.rows j ≡ Some a) → In a (from_place (fewer bits w.rows) w.rows)
      at-least a is z = elim (cases_lt z.0 (fewer bits w.rows)) [
        | inl less ↦ (let few = place-fewer bits 0 z.0 w.rows a (bits-rise w.rows (apart-valid w.rows parted) rises) z.1 less in absurd (omega (arith, few, is)))
        | inr more ↦ from-at (fewer bits w.rows) z.0 a w.rows z.1 more
      ]

  -- the row of a place isn't the first of a pair
  pub row-stays : (before w : World) (made now : Low → Bool) (bits at : ℕ) (r : Row) → AreJoinedBefore s before w made now bits at → slice_get w.rows at ≡ Some r
      → ((p : Low) (b : Row) → In b w.rows → CanJoin s p r b → r.bucket.bits ≡ bits → ⊥) → AreJoinedBefore s before w made now bits (suc at)
  row-stays before w made now bits at r j found none = record {
    joins = j.joins;
    above = j.above;
    behind = λ p a b ia ib can is. elim (from-next at w.rows r a found (j.behind p a b ia ib can is)) [
      | inl e ↦ absurd (none p b ib (subst (λ (x : Row). CanJoin s p x b) e can) (subst (λ (x : Row). x.bucket.bits ≡ bits) e is))
      | inr later ↦ later
    ];
  }

  -- nor is it ever the second: the first stands before it
  pub not-second : (before w : World) (made now : Low → Bool) (bits at : ℕ) (r : Row) → AreJoinedBefore s before w made now bits at → Rises 0 w.rows → slice_get w.rows at ≡ Some r → r.bucket.bits ≡ bits
      → (p : Low) (a : Row) → In a w.rows → CanJoin s p a r → ⊥
  not-second before w made now bits at r j rises found is p a i can =
      let same : a.bucket.bits ≡ bits = bits-first p a r can ∙ sym (bits-second p a r can) ∙ is in
      let z = at-from at a w.rows (j.behind p a r i (in-place r w.rows at found) can same) in
      let up = rises-from at z.0 0 w.rows r a rises found z.2 z.1 in
      let first : number_of a.bucket ≡ number_of (first_child p) = ap number_of can.first in
      let second : number_of r.bucket ≡ number_of (second_child p) = ap number_of can.second in
      let more = pow_pos p.bits in
      absurd (omega (arith, up, first, second, more))

  -- after the last place no pair of so many bits is left
  pub level-ends : (before w : World) (made now : Low → Bool) (bits at : ℕ) → AreJoinedBefore s before w made now bits at → AreApart w.rows → Rises 0 w.rows → fewer (bits + 1) w.rows ≤ at
      → (p : Low) (a b : Row) → In a w.rows → In b w.rows → CanJoin s p a b → a.bucket.bits < bits
  level-ends before w made now bits at j parted rises le p a b ia ib can = elim (cases_lt a.bucket.bits bits) [
    | inl less ↦ less
    | inr more ↦
        (let most = j.above p a b ia ib can in
        let is : a.bucket.bits ≡ bits = omega (arith, more, most) in
        let z = at-from at a w.rows (j.behind p a b ia ib can is) in
        let low = place-more (bits + 1) z.0 w.rows a z.2 (let x = z.1 in omega (arith, x, le)) 0 (bits-rise w.rows (apart-valid w.rows parted) rises) in
        absurd (omega (arith, low, is)))
  ]

  -- no pair has one bit, since a lane has some
  pub none-left : (rows : List Row) → 1 ≤ s.lane_bits → ((p : Low) (a b : Row) → In a rows → In b rows → CanJoin s p a b → a.bucket.bits < 2) → NoPair s rows
  none-left rows some few p a b ia ib can = let less = few p a b ia ib can in let bits = bits-first p a b can in let within = can.within in absurd (omega (arith, less, bits, within, some))

  -- ---- one join

  module _ (w : World) (at other : ℕ) (p : Low) (a b : Row) (found : slice_get w.rows at ≡ Some a) (beside : slice_get (remove w.rows at) other ≡ Some b) (can : CanJoin s p a b) where
    abbrev some : List Row
    some = remove w.rows at

    abbrev rest : List Row
    rest = remove some other

    abbrev parent : Row
    parent = join_row s p a b w.nodes

    among-a : Among a w.rows (remove w.rows at)
    among-a = among-removed w.rows at a found

    among-b : Among b (remove w.rows at) (remove (remove w.rows at) other)
    among-b = among-removed (remove w.rows at) other b beside

    among-parent : Among (join_row s p a b w.nodes) (with_row (join_row s p a b w.nodes) (remove (remove w.rows at) other)) (remove (remove w.rows at) other)
    among-parent = among-placed parent rest

    pub join-once : (now : Low → Bool) → Joins s w now (after_join s p a b at other w) (λ c. same_bucket c p || now c)
    join-once now = MoreJoins w.nodes w.rows some rest (with_row parent rest) now p a b (after_join s p a b at other w) (λ c. same_bucket c p || now c) among-a among-b can among-parent (NoJoin (after_join s p a b at other w) (λ c. same_bucket c p || now c))

    was-there : (x : Row) → In x rest → In x w.rows
    was-there x i = among-rest x a w.rows some among-a (among-rest x b some rest among-b i)

    -- of the rows of the pair's bits or fewer there is one less
    pub join-fewer : suc (fewer (p.bits + 2) (after_join s p a b at other w).rows) ≡ fewer (p.bits + 2) w.rows
    join-fewer =
        let one = fewer-removed (p.bits + 2) w.rows at a found in
        let two = fewer-removed (p.bits + 2) some other b beside in
        let come = fewer-placed (p.bits + 2) parent rest in
        let first : one_if (nat_lt a.bucket.bits (p.bits + 2)) ≡ 1 = ap (λ (k : ℕ). one_if (nat_lt k (p.bits + 2))) (bits-first p a b can) ∙ less p.bits 1 (omega arith) in
        let second : one_if (nat_lt b.bucket.bits (p.bits + 2)) ≡ 1 = ap (λ (k : ℕ). one_if (nat_lt k (p.bits + 2))) (bits-second p a b can) ∙ less p.bits 1 (omega arith) in
        let joined : one_if (nat_lt p.bits (p.bits + 2)) ≡ 1 = lesser p.bits in
        omega (arith, one, two, come, first, second, joined)
      where
        less : (k i : ℕ) → i < 2 → one_if (nat_lt (k + i) (k + 2)) ≡ 1
        less k i h = grind (arith, nat_tests)

        lesser : (k : ℕ) → one_if (nat_lt k (k + 2)) ≡ 1
        lesser k = grind (arith, nat_tests)

    module _ (bits : ℕ) (is : a.bucket.bits ≡ bits) where
      below : p.bits + 1 ≡ bits
      below = sym (bits-first p a b can) ∙ is

      -- of a later pair of so many bits neither is the parent
      pair-was : (q : Low) (x y : Row) → In x (with_row parent rest) → In y (with_row parent rest) → CanJoin s q x y → x.bucket.bits ≡ bits → In x rest × In y rest
      pair-was q x y i j c same = (old x i same, old y j (bits-second q x y c ∙ sym (bits-first q x y c) ∙ same))
        where
          old : (z : Row) → In z (with_row parent rest) → z.bucket.bits ≡ bits → In z rest
          old z k e = elim (in-among z parent (with_row parent rest) rest among-parent k) [
            | inl new ↦ (let low : z.bucket.bits ≡ p.bits = ap (λ (r : Row). r.bucket.bits) new in let b' = below in absurd (omega (arith, low, e, b')))
            | inr there ↦ there
          ]

      none-above : NoPairAbove s bits w.rows → NoPairAbove s bits (with_row parent rest)
      none-above none q x y i j c = elim (in-among x parent (with_row parent rest) rest among-parent i) [
        | inl new ↦ (let low : x.bucket.bits ≡ p.bits = ap (λ (r : Row). r.bucket.bits) new in let b' = below in omega (arith, low, b'))
        | inr there ↦ elim (in-among y parent (with_row parent rest) rest among-parent j) [
          | inl new ↦ (let low : y.bucket.bits ≡ p.bits = ap (λ (r : Row). r.bucket.bits) new in let b' = below in let f = bits-first q x y c in let g = bits-second q x y c in omega (arith, low, b', f, g))
          | inr also ↦ none q x y (was-there x there) (was-there y also) c
        ]
      ]

      module _ (behind : at ≤ other) (parted : AreApart w.rows) (rises : Rises 0 w.rows) (valid : IsBucket p) where
        not-a : (x : Row) → In x rest → x ≡ a → ⊥
        not-a x i e =
            let o = apart-among a w.rows some parted among-a in
            let no_meeting = none-in (λ q. meets q.bucket a.bucket) x some o.0 (among-rest x b some rest among-b i) in
            let own : meets x.bucket a.bucket ≡ true = subst (λ (y : Row). meets y.bucket a.bucket ≡ true) (sym e) (meets-refl a.bucket o.1) in cc

        not-b : (x : Row) → In x rest → x ≡ b → ⊥
        not-b x i e =
            let o = apart-among b some rest (apart-among a w.rows some parted among-a).2 among-b in
            let no_meeting = none-in (λ q. meets q.bucket b.bucket) x rest o.0 i in
            let own : meets x.bucket b.bucket ≡ true = subst (λ (y : Row). meets y.bucket b.bucket ≡ true) (sym e) (meets-refl b.bucket o.1) in cc

        still-behind : (x : Row) → In x rest → In x (from_place at w.rows) → In x (from_place at rest)
        still-behind x i k = elim (from-next at w.rows a x found k) [
          | inl e ↦ absurd (not-a x i e)
          | inr later ↦ elim (in-removed at other some b x behind beside (subst (λ (xs : List Row). In x xs) (sym (from-removed at w.rows)) later)) [
            | inl e ↦ absurd (not-b x i e)
            | inr there ↦ there
          ]
        ]

        -- what stands at the place now stood behind it
        lower : (r : Row) → slice_get rest at ≡ Some r → number_of parent.bucket ≤ number_of r.bucket
        lower r h =
            let z = at-from (suc at) r w.rows (subst (λ (xs : List Row). In r xs) (from-removed at w.rows) (later at other some b r behind h)) in
            let up = rises-from at z.0 0 w.rows a r rises found z.2 (let le = z.1 in omega (arith, le)) in
            let less = above p a.bucket valid (let e = bits-first p a b can in omega (arith, e)) in
            omega (arith, up, less)
          where
            later : (at k : ℕ) (rows : List Row) (c x : Row) → at ≤ k → slice_get (remove rows k) at ≡ Some x → In x (from_place at rows)
            later zero zero [] c x le f = cc
            later zero zero (q ∷ qs) c x le f = inr (in-place x qs 0 f)
            later zero (suc k) [] c x le f = cc
            later zero (suc k) (q ∷ qs) c x le f = let same : q ≡ x = cc in inl (sym same)
            later (suc at) zero rows c x le f = absurd (omega arith)
            later (suc at) (suc k) [] c x le f = cc
            later (suc at) (suc k) (q ∷ qs) c x le f = later at k qs c x (omega arith) f

        pub join-goes-on : (before : World) (made now : Low → Bool) → AreJoinedBefore s before w made now bits at → AreJoinedBefore s before (after_join s p a b at other w) made (λ c. same_bucket c p || now c) bits (suc at)
        join-goes-on before made now j = record {
          joins = joins-then before w (after_join s p a b at other w) made now (λ c. same_bucket c p || now c) j.joins (join-once now);
          above = none-above j.above;
          behind = λ q x y ix iy c same. (let was = pair-was q x y ix iy c same in
              subst (λ (xs : List Row). In x xs) (sym (from-placed parent at rest lower)) (still-behind x was.0 (j.behind q x y (was-there x was.0) (was-there y was.1) c same)));
        }
