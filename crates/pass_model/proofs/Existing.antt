-- There is a pass: joins and splits end.
use Rattle.std.proofs.Common.{length, ◌≡◌, ◌==◌, ◌&&◌, ◌||◌, ℕ, zero, suc, ◌+◌, ◌-◌, ◌<◌, ◌≤◌, Bool, true, false, List, [], ◌∷◌, refl, sym, ap, ap₂, ◌∙◌, subst, arith, ◌⊎◌, inl, inr, nat_le, Option, Some, None, ◌/◌, ◌^◌, eqb-true, eq-eqb, pow_pos}
use Rattle.std.specs.List.{list_any}
use Rattle.std.proofs.lemmas.Bool.{cases_lt}
use Rattle.bucket_ids.specs.Buckets.{Low, IsBucket, first_child, second_child}
use Rattle.lane_journals.specs.Sets.{count, count_below}
use Rattle.pass_model.specs.Nodes.{Node}
use Rattle.pass_model.specs.Rows.{Row, Settings}
use Rattle.pass_model.specs.Passes.{AllRows, Among, CanJoin, In, Joins, MoreJoins, MoreSplits, NoJoin, NoPair, NoSplit, NotFull, Passes, Splits, World, each_row, everywhere, first_row, join_nodes, join_row, nowhere, rounds, second_nodes, second_row, settle_all, settle_if}
use Rattle.pass_model.specs.Resting.{AreSettings, IsRow, IsSane}
use Rattle.pieces.specs.Pieces.{same_bucket}
use Rattle.lane_journals.specs.Events.{Content}
use Rattle.proof_basics.proofs.Tests.{or_true, and_true, clash, both}
use Rattle.pass_model.proofs.Lists.{all-in, none-in, in-among}
use Rattle.pass_model.proofs.Pairs.{Under, under-join, under-joins}
use Rattle.pass_model.proofs.Halves.{Always, under-splits}
use Rattle.pieces.proofs.PieceLaws.{bucket-same, same-refl}
use Rattle.proof_basics.proofs.Numbers.{le-of, le-to, twice}
use Rattle.pass_model.proofs.Resting.{after-rounds, joins-all, all-left, after-settling, new-kept, new-always, Kept}

-- ---- taking a row out

pub put-first : (r : Row) (rest : List Row) → Among r (r ∷ rest) rest
put-first r [] = (refl, refl)
put-first r (x ∷ rest) = inl (refl, refl)

pub take-out : (r : Row) (rows : List Row) → In r rows → (rest : List Row) × Among r rows rest
take-out r [] i = absurd i
take-out r (q ∷ qs) (inl e) = (qs, subst (λ x. Among x (q ∷ qs) qs) (sym e) (put-first q qs))
take-out r (q ∷ qs) (inr i) = let ih = take-out r qs i in (q ∷ ih.0, inr (refl, ih.1))

among-length : (r : Row) (rows rest : List Row) → Among r rows rest → length rows ≡ suc (length rest)
among-length r [] rest m = absurd m
among-length r (q ∷ qs) [] m = ap (λ l. suc (length l)) m.1
among-length r (q ∷ qs) (x ∷ rest) (inl m) = ap (λ l. suc (length l)) m.1
among-length r (q ∷ qs) (x ∷ rest) (inr m) = ap suc (among-length r qs rest m.1)

-- ---- a test of two rows, over all pairs

find-in : (T : Row → Bool) (rows : List Row) → ((r : Row) × In r rows × (T r ≡ true)) ⊎ ((r : Row) → In r rows → T r ≡ false)
find-in T [] = inr (λ r i. absurd i)
find-in T (q ∷ qs) = by_test (T q) refl (find-in T qs)
  where
    by_test : (t : Bool) → T q ≡ t → ((r : Row) × In r qs × (T r ≡ true)) ⊎ ((r : Row) → In r qs → T r ≡ false) → ((r : Row) × In r (q ∷ qs) × (T r ≡ true)) ⊎ ((r : Row) → In r (q ∷ qs) → T r ≡ false)
    by_test true e o = inl (q, inl refl, e)
    by_test false e (inl x) = inl (x.0, inr x.1, x.2)
    by_test false e (inr f) = inr (λ r i. elim i [ inl s ↦ subst (λ y. T y ≡ false) (sym s) e | inr j ↦ f r j ])

any-in : (T : Row → Bool) (rows : List Row) → list_any T rows ≡ true → (r : Row) × In r rows × (T r ≡ true)
any-in T [] h = cc
any-in T (q ∷ qs) h = elim (or_true (T q) (list_any T qs) h) [ inl e ↦ (q, inl refl, e) | inr l ↦ (let ih = any-in T qs l in (ih.0, inr ih.1, ih.2)) ]

same_active : Option ℕ → Option ℕ → Bool
same_active None None = true
same_active (Some a) (Some b) = a == b
same_active _ _ = false

active-true : (a b : Option ℕ) → same_active a b ≡ true → a ≡ b
unfolding same_active
active-true None None h = refl
active-true (Some a) (Some b) h = ap Some (eqb-true a b h)
active-true None (Some b) h = cc
active-true (Some a) None h = cc

active-refl : (a b : Option ℕ) → a ≡ b → same_active a b ≡ true
unfolding same_active
active-refl None None h = refl
active-refl (Some a) (Some b) h = eq-eqb a b (cc)
active-refl None (Some b) h = cc
active-refl (Some a) None h = cc

above : Row → Low
above a = record { bits = a.bucket.bits - 1; low = a.bucket.low }

is_pair : Settings → Row → Row → Bool
is_pair s a b = same_bucket b.bucket (second_child (above a)) && (nat_le s.lane_bits (a.bucket.bits - 1) && (same_active a.active b.active && nat_le (a.documents + b.documents) (s.split_at / 2)))

module _ (s : Settings) where
  pair-can : (a b : Row) → IsBucket a.bucket → is_pair s a b ≡ true → CanJoin s (above a) a b
  unfolding is_pair above
  pair-can a b ok h =
      let x = both (same_bucket b.bucket (second_child (record { bits = a.bucket.bits - 1; low = a.bucket.low }))) (nat_le s.lane_bits (a.bucket.bits - 1) && (same_active a.active b.active && nat_le (a.documents + b.documents) (s.split_at / 2))) h in
      let y = both (nat_le s.lane_bits (a.bucket.bits - 1)) (same_active a.active b.active && nat_le (a.documents + b.documents) (s.split_at / 2)) x.1 in
      let z = both (same_active a.active b.active) (nat_le (a.documents + b.documents) (s.split_at / 2)) y.1 in
      record { first = first_is; second = bucket-same b.bucket (second_child (record { bits = a.bucket.bits - 1; low = a.bucket.low })) x.0; within = le-of s.lane_bits (a.bucket.bits - 1) y.0; active = active-true a.active b.active z.0; few = le-of (a.documents + b.documents) (s.split_at / 2) z.1 }
    where
      first_is : a.bucket ≡ first_child (record { bits = a.bucket.bits - 1; low = a.bucket.low })
      first_is = let some = ok.some in let e : a.bucket.bits ≡ a.bucket.bits - 1 + 1 = omega arith in λ i. record { bits = e i; low = a.bucket.low }

  can-pair : (p : Low) (a b : Row) → CanJoin s p a b → is_pair s a b ≡ true
  unfolding is_pair above
  can-pair p a b can =
      and_true (same_bucket b.bucket (second_child (record { bits = a.bucket.bits - 1; low = a.bucket.low }))) (nat_le s.lane_bits (a.bucket.bits - 1) && (same_active a.active b.active && nat_le (a.documents + b.documents) (s.split_at / 2)))
      (subst (λ c. same_bucket b.bucket (second_child c) ≡ true) (sym here) (subst (λ c. same_bucket b.bucket c ≡ true) can.second (same-refl b.bucket)))
      (and_true (nat_le s.lane_bits (a.bucket.bits - 1)) (same_active a.active b.active && nat_le (a.documents + b.documents) (s.split_at / 2))
      (subst (λ c. nat_le s.lane_bits c ≡ true) (ap (λ (c : Low). c.bits) (sym here)) (le-to s.lane_bits p.bits can.within))
      (and_true (same_active a.active b.active) (nat_le (a.documents + b.documents) (s.split_at / 2)) (active-refl a.active b.active can.active) (le-to (a.documents + b.documents) (s.split_at / 2) can.few)))
    where
      here : record { bits = a.bucket.bits - 1; low = a.bucket.low } ≡ p
      here = let bits = ap (λ (c : Low). c.bits) can.first in let low = ap (λ (c : Low). c.low) can.first in let e : a.bucket.bits - 1 ≡ p.bits = omega arith in λ i. record { bits = e i; low = low i }

  -- a pair, or none
  pair-or-none : (ns : ℕ → Node) (rows : List Row) → AllRows (IsRow s ns) rows → ((a : Row) × (b : Row) × In a rows × In b rows × CanJoin s (above a) a b) ⊎ NoPair s rows
  pair-or-none ns rows ok = by_find (find-in (λ a. list_any (is_pair s a) rows) rows)
    where
      by_find : ((a : Row) × In a rows × (list_any (is_pair s a) rows ≡ true)) ⊎ ((a : Row) → In a rows → list_any (is_pair s a) rows ≡ false) → ((a : Row) × (b : Row) × In a rows × In b rows × CanJoin s (above a) a b) ⊎ NoPair s rows
      by_find (inl x) = let y = any-in (is_pair s x.0) rows x.2 in inl (x.0, y.0, x.1, y.1, pair-can x.0 y.0 (all-in (IsRow s ns) x.0 rows ok x.1).valid y.2)
      by_find (inr f) = inr (λ p a b ia ib can. clash (can-pair p a b can) (none-in (is_pair s a) b rows (f a ia) ib))

  differ : (p : Low) → first_child p ≡ second_child p → ⊥
  differ p e = let l = ap (λ (x : Low). x.low) e in let pos = pow_pos p.bits in omega arith

module _ (s : Settings) (sound : AreSettings s) (U : Content) where
  module _ (K : Row → Type 0) (K_new : (r a : Row) → K a → r.active ≡ a.active → r.documents ≤ s.split_at / 2 → K r) where
    -- joins end
    pub joins-end : (n : ℕ) (w : World) (left : Low → Bool) → length w.rows ≤ n → Under s sound U K left w → (v : World) × (last : Low → Bool) × Joins s w left v last × NoPair s v.rows
    joins-end zero w left h u = (w, left, NoJoin w left, empty w.rows h)
      where
        empty : (rows : List Row) → length rows ≤ 0 → NoPair s rows
        empty [] h p a b ia ib can = ia
        empty (r ∷ rs) h p a b ia ib can = absurd (omega arith)
    joins-end (suc n) w left h u = by_pair (λ x l g y. joins-end n x l g y) (pair-or-none s w.nodes w.rows u.sane.rows)
      where
        by_pair : ((x : World) (l : Low → Bool) → length x.rows ≤ n → Under s sound U K l x → (v : World) × (last : Low → Bool) × Joins s x l v last × NoPair s v.rows) → ((a : Row) × (b : Row) × In a w.rows × In b w.rows × CanJoin s (above a) a b) ⊎ NoPair s w.rows → (v : World) × (last : Low → Bool) × Joins s w left v last × NoPair s v.rows
        by_pair go (inr never) = (w, left, NoJoin w left, never)
        by_pair go (inl x) =
            let a = x.0 in let b = x.1 in let p = above x.0 in let can = x.4 in
            let ta = take-out a w.rows x.2 in
            let ib : In b ta.0 = elim (in-among b a w.rows ta.0 ta.1 x.3) [ inl same ↦ absurd (differ s p (sym can.first ∙ ap (λ (r : Row). r.bucket) (sym same) ∙ can.second)) | inr i ↦ i ] in
            let tb = take-out b ta.0 ib in
            let new = put-first (join_row s p a b w.nodes) tb.0 in
            let la = among-length a w.rows ta.0 ta.1 in let lb = among-length b ta.0 tb.0 tb.1 in
            let next = under-join s sound U K K_new w.nodes w.rows ta.0 tb.0 (join_row s p a b w.nodes ∷ tb.0) left p a b ta.1 tb.1 can new u in
            let ih = go (record { nodes = join_nodes s p a b w.nodes; rows = join_row s p a b w.nodes ∷ tb.0 }) (λ c. same_bucket c p || left c) (omega (arith, h, la, lb)) next in
            (ih.0, ih.1, MoreJoins w.nodes w.rows ta.0 tb.0 (join_row s p a b w.nodes ∷ tb.0) left p a b ih.0 ih.1 ta.1 tb.1 can new ih.2, ih.3)

  -- ---- splits end: each takes one from the weight

  pub weight : Low → ℕ
  weight b = 2 ^ (59 - b.bits) - 1

  pub weights : List Row → ℕ
  weights [] = 0
  weights (r ∷ rs) = weight r.bucket + weights rs

  among-weight : (r : Row) (rows rest : List Row) → Among r rows rest → weights rows ≡ weight r.bucket + weights rest
  unfolding weights
  among-weight r [] rest m = absurd m
  among-weight r (q ∷ qs) [] m = ap₂ (λ (x : Row) l. weight x.bucket + weights l) (sym m.0) m.1
  among-weight r (q ∷ qs) (x ∷ rest) (inl m) = ap₂ (λ (y : Row) l. weight y.bucket + weights l) (sym m.0) m.1
  among-weight r (q ∷ qs) (x ∷ rest) (inr m) = let ih = among-weight r qs rest m.1 in let e = ap (λ (y : Row). weight y.bucket) m.0 in omega arith

  halves-weight : (b : Low) → b.bits < 58 → weight b ≡ suc (weight (first_child b) + weight (second_child b))
  unfolding weight
  halves-weight b h =
      let k = 58 - b.bits in
      let up : 59 - b.bits ≡ (58 - b.bits) + 1 = omega arith in
      let down : 59 - (b.bits + 1) ≡ 58 - b.bits = omega arith in
      let t = twice (58 - b.bits) in
      let p = pow_pos (58 - b.bits) in
      let a : 2 ^ (59 - b.bits) ≡ 2 ^ (58 - b.bits) + 2 ^ (58 - b.bits) = ap (λ i. 2 ^ i) up ∙ t in
      let c : 2 ^ (59 - (b.bits + 1)) ≡ 2 ^ (58 - b.bits) = ap (λ i. 2 ^ i) down in
      sum (2 ^ (59 - b.bits)) (2 ^ (58 - b.bits)) (2 ^ (59 - (b.bits + 1))) a c p
    where
      sum : (x y z : ℕ) → x ≡ y + y → z ≡ y → 0 < y → x - 1 ≡ suc ((z - 1) + (z - 1))
      sum x y z e f g = omega arith

  full-or-none : (rows : List Row) → ((r : Row) × In r rows × (r.bucket.bits < 58) × (s.split_at < r.documents)) ⊎ AllRows (NotFull s) rows
  full-or-none [] = inr tt
  full-or-none (r ∷ rs) = by_row (cases_lt r.bucket.bits 58) (cases_lt s.split_at r.documents) (full-or-none rs)
    where
      by_row : (r.bucket.bits < 58) ⊎ (58 ≤ r.bucket.bits) → (s.split_at < r.documents) ⊎ (r.documents ≤ s.split_at) → ((q : Row) × In q rs × (q.bucket.bits < 58) × (s.split_at < q.documents)) ⊎ AllRows (NotFull s) rs
          → ((q : Row) × In q (r ∷ rs) × (q.bucket.bits < 58) × (s.split_at < q.documents)) ⊎ AllRows (NotFull s) (r ∷ rs)
      by_row (inl few) (inl full) o = inl (r, inl refl, few, full)
      by_row few full (inl x) = inl (x.0, inr x.1, x.2, x.3)
      by_row few (inr small) (inr f) = inr ((λ e. small), f)
      by_row (inr many) full (inr f) = inr ((λ e. absurd (omega (arith, e, many))), f)

  pub splits-end : (n : ℕ) (w : World) → weights w.rows ≤ n → (v : World) × Splits s w v × AllRows (NotFull s) v.rows
  unfolding weights
  splits-end zero w h = by_full (full-or-none w.rows)
    where
      by_full : ((r : Row) × In r w.rows × (r.bucket.bits < 58) × (s.split_at < r.documents)) ⊎ AllRows (NotFull s) w.rows → (v : World) × Splits s w v × AllRows (NotFull s) v.rows
      by_full (inr f) = (w, NoSplit w, f)
      by_full (inl x) = absurd (let t = take-out x.0 w.rows x.1 in let a = among-weight x.0 w.rows t.0 t.1 in let b = halves-weight x.0.bucket x.2 in omega arith)
  splits-end (suc n) w h = by_full (λ x g. splits-end n x g) (full-or-none w.rows)
    where
      by_full : ((x : World) → weights x.rows ≤ n → (v : World) × Splits s x v × AllRows (NotFull s) v.rows)
          → ((r : Row) × In r w.rows × (r.bucket.bits < 58) × (s.split_at < r.documents)) ⊎ AllRows (NotFull s) w.rows → (v : World) × Splits s w v × AllRows (NotFull s) v.rows
      by_full go (inr f) = (w, NoSplit w, f)
      by_full go (inl x) =
          let r = x.0 in
          let t = take-out r w.rows x.1 in
          let a = among-weight r w.rows t.0 t.1 in
          let b = halves-weight r.bucket x.2 in
          let one = first_row s r w.nodes ∷ t.0 in
          let two = second_row s r w.nodes ∷ one in
          let ih = go (record { nodes = second_nodes s r w.nodes; rows = second_row s r w.nodes ∷ first_row s r w.nodes ∷ t.0 })
          (fewer (weights w.rows) (weight r.bucket) (weights t.0) (weight (first_child r.bucket)) (weight (second_child r.bucket)) n h a b) in
          (ih.0, MoreSplits w.nodes w.rows t.0 one two r ih.0 t.1 x.2 x.3 (put-first (first_row s r w.nodes) t.0) (put-first (second_row s r w.nodes) one) ih.1, ih.2)
        where
          fewer : (all own rest c d n : ℕ) → all ≤ suc n → all ≡ own + rest → own ≡ suc (c + d) → d + (c + rest) ≤ n
          fewer all own rest c d n h e f = omega arith

  -- from each sane world there is a pass
  pub passes-exist : (w : World) → IsSane s U w → (v : World) × Passes s w v
  passes-exist w sane =
      let one = after-rounds s sound U w sane in
      let j = joins-end (Always s sound U) (new-always s sound U) (length (rounds s w).rows) (rounds s w) everywhere (omega arith) one in
      let two = under-joins s sound U (Always s sound U) (new-always s sound U) (rounds s w) j.0 everywhere j.1 j.2 one in
      let three = all-left s sound U j.1 j.0 (joins-all s sound U (rounds s w) j.0 everywhere j.1 j.2 (λ c. refl)) two in
      let sp = splits-end (weights j.0.rows) j.0 (omega arith) in
      let four = under-splits s sound U j.0 sp.0 sp.1 three j.3 in
      let five = after-settling s sound U sp.0 four.0 sp.2 in
      let k = joins-end (Kept s sound U) (new-kept s sound U) (length (settle_all s sp.0).rows) (settle_all s sp.0) nowhere (omega arith) five in (
        each_row (settle_if s k.1) k.0.nodes k.0.rows,
        record {
          joined = j.0;
          made = j.1;
          joins = j.2;
          no_pair = j.3;
          parted = sp.0;
          splits = sp.1;
          not_full = sp.2;
          again = k.0;
          left = k.1;
          joins_again = k.2;
          no_pair_again = k.3;
          is_last = refl;
        },
      )

-- ---- settings that are sound: one node, and no documents

pub one-node : Settings
one-node = record { serving = λ n. n == 0; ideal = λ b. 0 ∷ []; redundancy = 1; acks = 1; searchable = 1; split_at = 64; lane_bits = 4; documents = λ held b. 0 }

pub one-node-sound : AreSettings one-node
unfolding one-node count count_below
one-node-sound = record {
  few = λ n h. let e = eqb-true n 0 h in omega arith;
  serving = λ b n h. elim (or_true (0 == n) false h) [ inl e ↦ (let q : n ≡ 0 = sym (eqb-true 0 n e) in eq-eqb n 0 q) | inr e ↦ cc ];
  best = λ b. 0;
  best_first = λ b. ([], refl);
  redundant = omega arith;
  some_bits = omega arith;
  enough = λ b. omega arith;
  halves = λ held b ok. refl;
}
