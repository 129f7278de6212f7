-- The turns come to an end, from wherever the machine stands.
use Rattle.std.proofs.Common.{◌≡◌, ◌||◌, ◌+◌, ◌-◌, ◌^◌, ◌<◌, ◌≤◌, ℕ, zero, suc, Bool, true, false, cond, nat_le, nat_lt, List, [], ◌∷◌, length, Some, slice_get, slice_set, refl, sym, ap, ◌∙◌, subst, arith, pow_pos}
use Rattle.std.specs.List.{remove}
use Rattle.std.proofs.lemmas.List.Edits.{length-remove}
use Rattle.std.proofs.lemmas.Option.{slice_get_within}
use Rattle.bucket_ids.specs.Buckets.{Low, first_child, second_child, parent_of}
use Rattle.bucket_ids.specs.Printed.{number_of}
use Rattle.proof_basics.proofs.Tests.{both, clash}
use Rattle.lane_rest.specs.Targets.{is_active}
use Rattle.pass_model.specs.Nodes.{can_ready, delete_node}
use Rattle.pass_model.specs.Rows.{Settings, Row, round_row}
use Rattle.pass_model.specs.Settling.{needs_align, to_be_active, activate_nodes, could_activate, delete_shown}
use Rattle.pass_model.specs.Passes.{World, merged, child_row}
use Rattle.pass_model.specs.Sweeps.{with_row, fewer}
use Rattle.proof_basics.proofs.Numbers.{twice, le-to, lt-of}
use Rattle.pass_model.proofs.Sweeping.{length-placed}
use Rattle.pass_model.specs.Turns.{Time, First, Again, Doing, Unanswered, ResendingDelete, ResentDelete, ResendingActivate, ResentActivate, Rounding, Joining, JoinTold, JoinRound, Splitting, SplitTold, SplitFirst, SplitSecond, Settling, Aligning, AlignRound, Readying, Deciding, Activating, Accepting, Deleting, DeleteTold, DeleteOver, Finished, Stand, stand, is_due, with_made, told, with_place_row, by_row, round_of, place_of, round_then, activate_then, accepted_if, begin_joins, end_joins, fewer_bits, place_beside, without_pair, join_at, join_one, is_full, with_children, split_at_place, split_one, end_settling, settle_next, align_one, aligning, ready_one, readying, decided, does_lose, unmarked, deleting, delete_told, turn_at, turn, turns}
use Rattle.pass_model.proofs.Standings.{by-row, by-test}

length-set : (rows : List Row) (at : ℕ) (q : Row) → length (slice_set rows at q) ≡ length rows
length-set [] at q = refl
length-set (x ∷ xs) zero q = refl
length-set (x ∷ xs) (suc at) q = ap suc (length-set xs at q)

module _ (s : Settings) where
  pub record Ends (x : Stand) : Type 0 where
    pub many : ℕ
    pub after : World
    pub ends : turns s many x ≡ stand Finished after

  by-turn : (d : Doing) (w : World) → Ends (turn_at s d w) → Ends (stand d w)
  unfolding turns turn
  by-turn d w e = record { many = suc e.many; after = e.after; ends = e.ends }

  is-finished : (w : World) → Ends (stand Finished w)
  unfolding turns
  is-finished w = record { many = 0; after = w; ends = refl }

  -- node after node
  node-loop : (A : Type 0) (at_node : ℕ → A → Stand) → ((k : ℕ) (a : A) → (k < 32 → (c : A) → Ends (at_node (suc k) c)) → Ends (at_node k a)) → (j k : ℕ) (a : A) → 32 ≤ k + j → Ends (at_node k a)
  node-loop A at_node step zero k a all = step k a (λ less c. absurd (omega (arith, less, all)))
  node-loop A at_node step (suc j) k a all = step k a (λ less c. node-loop A at_node step j (suc k) c (omega (arith, all)))

  -- ---- one row is settled

  module _ (most : ℕ) where
    abbrev Sized : Type 0
    Sized = (w : World) × (length w.rows ≤ most)

    sized-set : (w : World) (at : ℕ) (q : Row) → length w.rows ≤ most → length (slice_set w.rows at q) ≤ most
    sized-set w at q le = let e = length-set w.rows at q in omega (arith, e, le)

    module _ (t : Time) (at : ℕ) (next : (v : World) → length v.rows ≤ most → Ends (stand (Settling t (suc at)) v)) where
      -- a turn with the row, or with the next one where there is none
      with-row : (d : Doing) (w : World) (f : Row → Stand) → length w.rows ≤ most → turn_at s d w ≡ by_row (slice_get w.rows at) (stand (Settling t (suc at)) w) f → ((r : Row) → Ends (f r)) → Ends (stand d w)
      with-row d w f le is some = by-turn d w (subst Ends (sym is) (by-row Ends (slice_get w.rows at) (stand (Settling t (suc at)) w) f (λ none. next w le) (λ r found. some r)))

      deletes-step : (k : ℕ) (a : Sized) → (k < 32 → (c : Sized) → Ends (stand (Deleting t at (suc k)) c.0)) → Ends (stand (Deleting t at k) a.0)
      deletes-step k a go = with-row (Deleting t at k) a.0 (deleting s t at k a.0) a.1 refl (λ r.
          by-test Ends (nat_lt k 32) (cond (does_lose s r k) (stand (DeleteTold t at k) (with_place_row at (unmarked k r) a.0)) (stand (Deleting t at (suc k)) a.0)) (stand (Settling t (suc at)) a.0)
          (λ h. by-test Ends (does_lose s r k) (stand (DeleteTold t at k) (with_place_row at (unmarked k r) a.0)) (stand (Deleting t at (suc k)) a.0)
          (λ u. tells (with_place_row at (unmarked k r) a.0) (sized-set a.0 at (unmarked k r) a.1) (lt-of k 32 h))
          (λ u. go (lt-of k 32 h) a))
          (λ h. next a.0 a.1))
        where
          tells : (v : World) → length v.rows ≤ most → k < 32 → Ends (stand (DeleteTold t at k) v)
          tells v le less = with-row (DeleteTold t at k) v (delete_told t at k v) le refl (λ r.
              let x = told k (λ n. delete_shown r.bucket (r.shown n)) v in by-turn (DeleteOver t at k) x (go less (x, le)))

      deletes-end : (w : World) → length w.rows ≤ most → Ends (stand (Deleting t at 0) w)
      deletes-end w le = node-loop Sized (λ k a. stand (Deleting t at k) a.0) deletes-step 32 0 (w, le) (omega arith)

      accepts-end : (answered : Bool) (w : World) → length w.rows ≤ most → Ends (stand (Accepting t at answered) w)
      accepts-end answered w le = with-row (Accepting t at answered) w (λ r. stand (Deleting t at 0) (with_place_row at (accepted_if answered r) w)) le refl (λ r. deletes-end (with_place_row at (accepted_if answered r) w) (sized-set w at (accepted_if answered r) le))

      activates-end : (w : World) → length w.rows ≤ most → Ends (stand (Activating t at) w)
      activates-end w le = with-row (Activating t at) w (activate_then (Accepting t at) w) le refl (λ r. accepts-end (could_activate r.bucket w.nodes r.active) (record { nodes = activate_nodes r w.nodes; rows = w.rows }) le)

      decides-end : (ready : Bool) (w : World) → length w.rows ≤ most → Ends (stand (Deciding t at ready) w)
      decides-end ready w le = with-row (Deciding t at ready) w (λ r. stand (Activating t at) (with_place_row at (decided s ready r) w)) le refl (λ r. activates-end (with_place_row at (decided s ready r) w) (sized-set w at (decided s ready r) le))

      readies-step : (k : ℕ) (a : Sized × Bool) → (k < 32 → (c : Sized × Bool) → Ends (stand (Readying t at (suc k) c.1) c.0.0)) → Ends (stand (Readying t at k a.1) a.0.0)
      readies-step k a go = with-row (Readying t at k a.1) a.0.0 (readying s t at k a.1 a.0.0) a.0.1 refl (λ r.
          let answer = cond (is_active (to_be_active s r) k) (can_ready r.bucket (a.0.0.nodes k)) a.1 in
          by-test Ends (nat_lt k 32) (stand (Readying t at (suc k) answer) (told k (ready_one s r) a.0.0)) (stand (Deciding t at a.1) a.0.0)
          (λ h. go (lt-of k 32 h) ((told k (ready_one s r) a.0.0, a.0.1), answer))
          (λ h. decides-end a.1 a.0.0 a.0.1))

      readies-end : (w : World) → length w.rows ≤ most → Ends (stand (Readying t at 0 false) w)
      readies-end w le = node-loop (Sized × Bool) (λ k a. stand (Readying t at k a.1) a.0.0) readies-step 32 0 ((w, le), false) (omega arith)

      align-round-ends : (w : World) → length w.rows ≤ most → Ends (stand (AlignRound t at) w)
      align-round-ends w le = with-row (AlignRound t at) w (λ r. stand (Readying t at 0 false) (round_of s at r w)) le refl (λ r. readies-end (round_of s at r w) (sized-set w at (round_row s r w.nodes) le))

      aligns-step : (k : ℕ) (a : Sized × Bool) → (k < 32 → (c : Sized × Bool) → Ends (stand (Aligning t at (suc k) c.1) c.0.0)) → Ends (stand (Aligning t at k a.1) a.0.0)
      aligns-step k a go = with-row (Aligning t at k a.1) a.0.0 (aligning s t at k a.1 a.0.0) a.0.1 refl (λ r.
          by-test Ends (nat_lt k 32) (stand (Aligning t at (suc k) (needs_align s r k || a.1)) (told k (align_one s r) a.0.0)) (cond a.1 (stand (AlignRound t at) a.0.0) (stand (Readying t at 0 false) a.0.0))
          (λ h. go (lt-of k 32 h) ((told k (align_one s r) a.0.0, a.0.1), needs_align s r k || a.1))
          (λ h. by-test Ends a.1 (stand (AlignRound t at) a.0.0) (stand (Readying t at 0 false) a.0.0) (λ u. align-round-ends a.0.0 a.0.1) (λ u. readies-end a.0.0 a.0.1)))

      aligns-end : (w : World) → length w.rows ≤ most → Ends (stand (Aligning t at 0 false) w)
      aligns-end w le = node-loop (Sized × Bool) (λ k a. stand (Aligning t at k a.1) a.0.0) aligns-step 32 0 ((w, le), false) (omega arith)

  -- ---- row after row

  settles-end : (t : Time) → ((v : World) → Ends (end_settling t v)) → (n at : ℕ) (w : World) → length w.rows ≤ at + n → Ends (stand (Settling t at) w)
  settles-end t done zero at w le = by-turn (Settling t at) w (by-row Ends (slice_get w.rows at) (end_settling t w) (settle_next t at w) (λ none. done w)
      (λ r found. let within = slice_get_within w.rows at r found in absurd (omega (arith, le, within))))
  settles-end t done (suc n) at w le = by-turn (Settling t at) w (by-row Ends (slice_get w.rows at) (end_settling t w) (settle_next t at w) (λ none. done w)
      (λ r found. by-test Ends (is_due t r.bucket) (stand (Aligning t at 0 false) w) (stand (Settling t (suc at)) w)
      (λ due. aligns-end (at + suc n) t at (λ v few. settles-end t done n (suc at) v (omega (arith, few))) w le)
      (λ due. settles-end t done n (suc at) w (omega (arith, le)))))

  -- ---- a round, and on

  module _ (Q : List Row → Type 0) (keeps : (rows : List Row) (at : ℕ) (r q : Row) → slice_get rows at ≡ Some r → q.bucket ≡ r.bucket → Q rows → Q (slice_set rows at q)) where
    round-ends : (b : Low) (next : Doing) (w : World) → ((v : World) → Q v.rows → Ends (stand next v)) → Q w.rows → Ends (round_then s b next w)
    round-ends b next w go has = by-row Ends (slice_get w.rows (place_of b w.rows)) (stand next w) (λ r. stand next (round_of s (place_of b w.rows) r w)) (λ none. go w has)
        (λ r found. go (round_of s (place_of b w.rows) r w) (keeps w.rows (place_of b w.rows) r (round_row s r w.nodes) found refl has))

  -- ---- joins

  sized-keeps : (most : ℕ) (rows : List Row) (at : ℕ) (r q : Row) → slice_get rows at ≡ Some r → q.bucket ≡ r.bucket → length rows ≤ most → length (slice_set rows at q) ≤ most
  sized-keeps most rows at r q found same le = let e = length-set rows at q in omega (arith, e, le)

  pair-length : (rows : List Row) (at other : ℕ) (a b x : Row) → slice_get rows at ≡ Some a → slice_get (remove rows at) other ≡ Some b → suc (length (with_row x (without_pair at other rows))) ≡ length rows
  pair-length rows at other a b x found beside =
      let one = length-remove rows at (slice_get_within rows at a found) in
      let two = length-remove (remove rows at) other (slice_get_within (remove rows at) other b beside) in
      let within = slice_get_within rows at a found in
      let also = slice_get_within (remove rows at) other b beside in
      let placed = length-placed x (without_pair at other rows) in
      omega (arith, one, two, within, also, placed)

  module _ (K : Time → Type 0) (keeps : (t : Time) (p : Low) → K t → K (with_made p t)) where
    module _ (bits : ℕ) (lower : (t : Time) → K t → (v : World) → Ends (fewer_bits t bits v)) where
      module _ (most : ℕ) (at : ℕ) (next : (t : Time) → K t → (v : World) → length v.rows ≤ most → Ends (stand (Joining t bits (suc at)) v)) (t : Time) (kind : K t) (p : Low) where
        join-round-ends : (w : World) → length w.rows ≤ most → Ends (stand (JoinRound t bits at p) w)
        join-round-ends w le = by-turn (JoinRound t bits at p) w (round-ends (λ rows. length rows ≤ most) (sized-keeps most) p (Joining (with_made p t) bits (suc at)) w (next (with_made p t) (keeps t p kind)) le)

        join-told-step : (k : ℕ) (a : Sized most) → (k < 32 → (c : Sized most) → Ends (stand (JoinTold t bits at p (suc k)) c.0)) → Ends (stand (JoinTold t bits at p k) a.0)
        join-told-step k a go = by-turn (JoinTold t bits at p k) a.0 (by-test Ends (nat_lt k 32) (stand (JoinTold t bits at p (suc k)) (told k (join_one s p) a.0)) (stand (JoinRound t bits at p) a.0)
            (λ h. go (lt-of k 32 h) (told k (join_one s p) a.0, a.1))
            (λ h. join-round-ends a.0 a.1))

        join-told-ends : (w : World) → length w.rows ≤ most → Ends (stand (JoinTold t bits at p 0) w)
        join-told-ends w le = node-loop (Sized most) (λ k a. stand (JoinTold t bits at p k) a.0) join-told-step 32 0 (w, le) (omega arith)

      joins-end : (n : ℕ) (t : Time) → K t → (at : ℕ) (w : World) → length w.rows ≤ at + n → Ends (stand (Joining t bits at) w)
      joins-end zero t kind at w le = by-turn (Joining t bits at) w (by-test Ends (nat_lt at (fewer (bits + 1) w.rows)) (by_row (slice_get w.rows at) (fewer_bits t bits w) (join_at s t bits at w)) (fewer_bits t bits w)
          (λ h. by-row Ends (slice_get w.rows at) (fewer_bits t bits w) (join_at s t bits at w) (λ none. lower t kind w) (λ a found. let within = slice_get_within w.rows at a found in absurd (omega (arith, le, within))))
          (λ h. lower t kind w))
      joins-end (suc n) t kind at w le = by-turn (Joining t bits at) w (by-test Ends (nat_lt at (fewer (bits + 1) w.rows)) (by_row (slice_get w.rows at) (fewer_bits t bits w) (join_at s t bits at w)) (fewer_bits t bits w)
          (λ h. by-row Ends (slice_get w.rows at) (fewer_bits t bits w) (join_at s t bits at w) (λ none. lower t kind w) (λ a found.
          by-row Ends (slice_get (remove w.rows at) (place_beside s bits at a w.rows)) (stand (Joining t bits (suc at)) w)
          (λ two. stand (JoinTold t bits at (parent_of a.bucket) 0) (record { nodes = w.nodes; rows = with_row (merged (parent_of a.bucket) a two) (without_pair at (place_beside s bits at a w.rows) w.rows) }))
          (λ none. joins-end n t kind (suc at) w (omega (arith, le)))
          (λ two beside. join-told-ends (at + suc n) at (λ u k v few. joins-end n u k (suc at) v (omega (arith, few))) t kind (parent_of a.bucket)
          (record { nodes = w.nodes; rows = with_row (merged (parent_of a.bucket) a two) (without_pair at (place_beside s bits at a w.rows) w.rows) })
          (let e = pair-length w.rows at (place_beside s bits at a w.rows) a two (merged (parent_of a.bucket) a two) found beside in omega (arith, e, le)))))
          (λ h. lower t kind w))

    module _ (done : (t : Time) → K t → (v : World) → Ends (end_joins t v)) where
      levels-end : (m bits : ℕ) → bits ≤ m + 2 → (t : Time) → K t → (w : World) → Ends (fewer_bits t bits w)
      levels-end zero bits le t kind w = by-test Ends (nat_le bits 2) (end_joins t w) (stand (Joining t (bits - 1) (fewer (bits - 1) w.rows)) w) (λ h. done t kind w)
          (λ h. clash (le-to bits 2 (omega (arith, le))) h)
      levels-end (suc m) bits le t kind w = by-test Ends (nat_le bits 2) (end_joins t w) (stand (Joining t (bits - 1) (fewer (bits - 1) w.rows)) w) (λ h. done t kind w)
          (λ h. joins-end (bits - 1) (λ u k v. levels-end m (bits - 1) (omega (arith, le)) u k v) (length w.rows) t kind (fewer (bits - 1) w.rows) w (omega arith))

      all-joins-end : (t : Time) → K t → (w : World) → Ends (begin_joins t w)
      all-joins-end t kind w = joins-end 58 (levels-end 56 58 (omega arith)) (length w.rows) t kind (fewer 58 w.rows) w (omega arith)

  -- ---- splits: each takes one from the weight of the rows

  abbrev weight : Low → ℕ
  weight b = 2 ^ (59 - b.bits) - 1

  abbrev weights : List Row → ℕ
  weights [] = 0
  weights (r ∷ rs) = weight r.bucket + weights rs

  weights-set : (rows : List Row) (at : ℕ) (r q : Row) → slice_get rows at ≡ Some r → q.bucket ≡ r.bucket → weights (slice_set rows at q) ≡ weights rows
  weights-set [] at r q found same = refl
  weights-set (x ∷ xs) zero r q found same = let here : x ≡ r = cc in ap (λ (b : Low). weight b + weights xs) (same ∙ sym (ap (λ (y : Row). y.bucket) here))
  weights-set (x ∷ xs) (suc at) r q found same = ap (λ k. weight x.bucket + k) (weights-set xs at r q found same)

  weights-removed : (rows : List Row) (at : ℕ) (r : Row) → slice_get rows at ≡ Some r → weights rows ≡ weight r.bucket + weights (remove rows at)
  weights-removed [] at r found = cc
  weights-removed (x ∷ xs) zero r found = let here : x ≡ r = cc in ap (λ (y : Row). weight y.bucket + weights xs) here
  weights-removed (x ∷ xs) (suc at) r found = let ih = weights-removed xs at r found in swap (weight x.bucket) (weights xs) (weight r.bucket) (weights (remove xs at)) ih
    where
      swap : (a all c rest : ℕ) → all ≡ c + rest → a + all ≡ c + (a + rest)
      swap a all c rest e = omega (arith, e)

  weights-placed : (x : Row) (rows : List Row) → weights (with_row x rows) ≡ weight x.bucket + weights rows
  weights-placed x [] = refl
  weights-placed x (y ∷ ys) = by_test (nat_lt (number_of y.bucket) (number_of x.bucket)) (weights-placed x ys)
    where
      swap : (a all c rest : ℕ) → all ≡ c + rest → a + all ≡ c + (a + rest)
      swap a all c rest e = omega (arith, e)

      by_test : (t : Bool) → weights (with_row x ys) ≡ weight x.bucket + weights ys → weights (cond t (y ∷ with_row x ys) (x ∷ y ∷ ys)) ≡ weight x.bucket + (weight y.bucket + weights ys)
      by_test true ih = swap (weight y.bucket) (weights (with_row x ys)) (weight x.bucket) (weights ys) ih
      by_test false ih = refl

  halves-weight : (b : Low) → b.bits < 58 → weight b ≡ suc (weight (first_child b) + weight (second_child b))
  halves-weight b h =
      let up : 59 - b.bits ≡ (58 - b.bits) + 1 = omega (arith, h) in
      let down : 59 - (b.bits + 1) ≡ 58 - b.bits = omega (arith, h) in
      let a : 2 ^ (59 - b.bits) ≡ 2 ^ (58 - b.bits) + 2 ^ (58 - b.bits) = ap (λ i. 2 ^ i) up ∙ twice (58 - b.bits) in
      let c : 2 ^ (59 - (b.bits + 1)) ≡ 2 ^ (58 - b.bits) = ap (λ i. 2 ^ i) down in
      sum (2 ^ (59 - b.bits)) (2 ^ (58 - b.bits)) (2 ^ (59 - (b.bits + 1))) a c (pow_pos (58 - b.bits))
    where
      sum : (x y z : ℕ) → x ≡ y + y → z ≡ y → 0 < y → x - 1 ≡ suc ((z - 1) + (z - 1))
      sum x y z e f g = omega (arith, e, f, g)

  children-weight : (rows : List Row) (at : ℕ) (r : Row) → slice_get rows at ≡ Some r → r.bucket.bits < 58 → suc (weights (with_children at r rows)) ≡ weights rows
  children-weight rows at r found few =
      let one = child_row (first_child r.bucket) r in
      let two = child_row (second_child r.bucket) r in
      let rest = remove rows at in
      sum (weights rows) (weight r.bucket) (weights rest) (weight (first_child r.bucket)) (weight (second_child r.bucket)) (weights (with_row one rest)) (weights (with_row two (with_row one rest)))
      (weights-removed rows at r found) (halves-weight r.bucket few) (weights-placed one rest) (weights-placed two (with_row one rest))
    where
      sum : (all own rest c d one two : ℕ) → all ≡ own + rest → own ≡ suc (c + d) → one ≡ c + rest → two ≡ d + one → suc two ≡ all
      sum all own rest c d one two e f g h = omega (arith, e, f, g, h)

  lighter-keeps : (m : ℕ) (rows : List Row) (at : ℕ) (r q : Row) → slice_get rows at ≡ Some r → q.bucket ≡ r.bucket → weights rows < m → weights (slice_set rows at q) < m
  lighter-keeps m rows at r q found same less = subst (λ k. k < m) (sym (weights-set rows at r q found same)) less

  module _ (done : (v : World) → Ends (stand (Settling First 0) v)) where
    module _ (m : ℕ) (lighter : (at : ℕ) (v : World) → weights v.rows < m → Ends (stand (Splitting at) v)) where
      abbrev Light : Type 0
      Light = (w : World) × (weights w.rows < m)

      module _ (at : ℕ) (p : Low) where
        second-ends : (w : World) → weights w.rows < m → Ends (stand (SplitSecond at p) w)
        second-ends w less = by-turn (SplitSecond at p) w (round-ends (λ rows. weights rows < m) (lighter-keeps m) (second_child p) (Splitting at) w (lighter at) less)

        first-ends : (w : World) → weights w.rows < m → Ends (stand (SplitFirst at p) w)
        first-ends w less = by-turn (SplitFirst at p) w (round-ends (λ rows. weights rows < m) (lighter-keeps m) (first_child p) (SplitSecond at p) w second-ends less)

        split-told-step : (k : ℕ) (a : Light) → (k < 32 → (c : Light) → Ends (stand (SplitTold at p (suc k)) c.0)) → Ends (stand (SplitTold at p k) a.0)
        split-told-step k a go = by-turn (SplitTold at p k) a.0 (by-test Ends (nat_lt k 32) (stand (SplitTold at p (suc k)) (told k (split_one s p) a.0)) (stand (SplitFirst at p) a.0)
            (λ h. go (lt-of k 32 h) (told k (split_one s p) a.0, a.1))
            (λ h. first-ends a.0 a.1))

        split-told-ends : (w : World) → weights w.rows < m → Ends (stand (SplitTold at p 0) w)
        split-told-ends w less = node-loop Light (λ k a. stand (SplitTold at p k) a.0) split-told-step 32 0 (w, less) (omega arith)

      splits-rows : (n at : ℕ) (w : World) → weights w.rows < suc m → length w.rows ≤ at + n → Ends (stand (Splitting at) w)
      splits-rows zero at w light le = by-turn (Splitting at) w (by-row Ends (slice_get w.rows at) (stand (Settling First 0) w) (split_at_place s at w) (λ none. done w)
          (λ r found. let within = slice_get_within w.rows at r found in absurd (omega (arith, le, within))))
      splits-rows (suc n) at w light le = by-turn (Splitting at) w (by-row Ends (slice_get w.rows at) (stand (Settling First 0) w) (split_at_place s at w) (λ none. done w)
          (λ r found. by-test Ends (is_full s r) (stand (SplitTold at r.bucket 0) (record { nodes = w.nodes; rows = with_children at r w.rows })) (stand (Splitting (suc at)) w)
          (λ h. let full = both (nat_lt r.bucket.bits 58) (nat_lt s.split_at r.documents) h in
          let e = children-weight w.rows at r found (lt-of r.bucket.bits 58 full.0) in
          split-told-ends at r.bucket (record { nodes = w.nodes; rows = with_children at r w.rows }) (less (weights (with_children at r w.rows)) (weights w.rows) e light))
          (λ h. splits-rows n (suc at) w light (omega (arith, le)))))
        where
          less : (two all : ℕ) → suc two ≡ all → all < suc m → two < m
          less two all e l = omega (arith, e, l)

    splits-end : (m at : ℕ) (w : World) → weights w.rows < m → Ends (stand (Splitting at) w)
    splits-end zero at w less = absurd (none (weights w.rows) less)
      where
        none : (k : ℕ) → k < 0 → ⊥
        none k h = omega (arith, h)
    splits-end (suc m) at w less = splits-rows m (splits-end m) (length w.rows) at w less (omega arith)

  -- ---- all of it, from the end on

  abbrev IsFirst : Time → Type 0
  IsFirst First = Unit {0}
  IsFirst (Again made) = ⊥

  abbrev IsAgain : Time → Type 0
  IsAgain First = ⊥
  IsAgain (Again made) = Unit {0}

  first-keeps : (t : Time) (p : Low) → IsFirst t → IsFirst (with_made p t)
  first-keeps First p h = tt
  first-keeps (Again made) p h = absurd h

  again-keeps : (t : Time) (p : Low) → IsAgain t → IsAgain (with_made p t)
  again-keeps First p h = absurd h
  again-keeps (Again made) p h = tt

  joined-again-ends : (t : Time) → IsAgain t → (v : World) → Ends (end_joins t v)
  joined-again-ends First h v = absurd h
  joined-again-ends (Again made) h v = settles-end (Again made) is-finished (length v.rows) 0 v (omega arith)

  settled-first-ends : (v : World) → Ends (stand (Settling First 0) v)
  settled-first-ends v = settles-end First (λ w. all-joins-end IsAgain again-keeps joined-again-ends (Again []) tt w) (length v.rows) 0 v (omega arith)

  joined-first-ends : (t : Time) → IsFirst t → (v : World) → Ends (end_joins t v)
  joined-first-ends First h v = splits-end settled-first-ends (suc (weights v.rows)) 0 v (above (weights v.rows))
    where
      above : (k : ℕ) → k < suc k
      above k = omega arith
  joined-first-ends (Again made) h v = absurd h

  rounds-end : (n at : ℕ) (w : World) → length w.rows ≤ at + n → Ends (stand (Rounding at) w)
  rounds-end zero at w le = by-turn (Rounding at) w (by-row Ends (slice_get w.rows at) (begin_joins First w) (λ r. stand (Rounding (suc at)) (round_of s at r w)) (λ none. all-joins-end IsFirst first-keeps joined-first-ends First tt w)
      (λ r found. let within = slice_get_within w.rows at r found in absurd (omega (arith, le, within))))
  rounds-end (suc n) at w le = by-turn (Rounding at) w (by-row Ends (slice_get w.rows at) (begin_joins First w) (λ r. stand (Rounding (suc at)) (round_of s at r w)) (λ none. all-joins-end IsFirst first-keeps joined-first-ends First tt w)
      (λ r found. let e = length-set w.rows at (round_row s r w.nodes) in rounds-end n (suc at) (round_of s at r w) (omega (arith, e, le))))

  activates-again-end : (n at : ℕ) (w : World) → length w.rows ≤ at + n → Ends (stand (ResendingActivate at) w)
  activates-again-end zero at w le = by-turn (ResendingActivate at) w (by-row Ends (slice_get w.rows at) (stand (Rounding 0) w) (activate_then (ResentActivate at) w) (λ none. rounds-end (length w.rows) 0 w (omega arith))
      (λ r found. let within = slice_get_within w.rows at r found in absurd (omega (arith, le, within))))
  activates-again-end (suc n) at w le = by-turn (ResendingActivate at) w (by-row Ends (slice_get w.rows at) (stand (Rounding 0) w) (activate_then (ResentActivate at) w) (λ none. rounds-end (length w.rows) 0 w (omega arith))
      (λ r found. let answered = could_activate r.bucket w.nodes r.active in
      let v : World = record { nodes = activate_nodes r w.nodes; rows = w.rows } in
      by-turn (ResentActivate at answered) v (by-row Ends (slice_get w.rows at) (stand (ResendingActivate (suc at)) v) (λ q. stand (ResendingActivate (suc at)) (with_place_row at (accepted_if answered q) v))
      (λ none. activates-again-end n (suc at) v (omega (arith, le)))
      (λ q there. let e = length-set w.rows at (accepted_if answered q) in activates-again-end n (suc at) (with_place_row at (accepted_if answered q) v) (omega (arith, e, le))))))

  deletes-again-end : (deletes : List Unanswered) (w : World) → Ends (stand (ResendingDelete deletes) w)
  deletes-again-end [] w = by-turn (ResendingDelete []) w (activates-again-end (length w.rows) 0 w (omega arith))
  deletes-again-end (d ∷ ds) w =
      let v = told d.node (λ n. delete_node d.bucket d.serial) w in
      by-turn (ResendingDelete (d ∷ ds)) w (by-turn (ResentDelete ds) v (deletes-again-end ds v))

  pub turns-end : (w : World) → (many : ℕ) × (after : World) × (turns s many (stand (Rounding 0) w) ≡ stand Finished after)
  turns-end w = let e = rounds-end (length w.rows) 0 w (omega arith) in (e.many, e.after, e.ends)

  pub turns-end-resent : (deletes : List Unanswered) (w : World) → (many : ℕ) × (after : World) × (turns s many (stand (ResendingDelete deletes) w) ≡ stand Finished after)
  turns-end-resent deletes w = let e = deletes-again-end deletes w in (e.many, e.after, e.ends)
