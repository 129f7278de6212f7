-- What a turn makes of the nodes, and what it leaves as it is.
use Rattle.std.proofs.Common.{◌≡◌, ◌==◌, ◌&&◌, ◌||◌, ◌+◌, ◌-◌, not, ℕ, zero, suc, Bool, true, false, cond, nat_le, nat_lt, [], ◌∷◌, Option, Some, None, slice_get, refl, ap, ◌∙◌, arith, eqb-true}
use Rattle.std.specs.List.{remove}
use Rattle.bucket_ids.specs.Buckets.{Low, first_child, parent_of}
use Rattle.messages.specs.declared.body.Body.TheVariants as body
use Rattle.pass_model.specs.Nodes.{Node, activate_node, can_ready, join_node, ready_node, split_node}
use Rattle.pass_model.specs.Shapes.{Shape, Nothing, Same, Over, Inside}
use Rattle.lane_rest.specs.Targets.{is_active}
use Rattle.pass_model.specs.Rows.{Settings, Row}
use Rattle.pass_model.specs.Settling.{activate_nodes, aligned, is_asked, needs_align, to_be_active, delete_shown}
use Rattle.pass_model.specs.Sweeps.{fewer, with_row}
use Rattle.pass_model.specs.Passes.{World, merged}
use Rattle.pass_model.specs.Turns.{Time, First, Again, Doing, ResendingDelete, ResentDelete, ResendingActivate, ResentActivate, Rounding, Joining, JoinTold, JoinRound, Splitting, SplitTold, SplitFirst, SplitSecond, Settling, Aligning, AlignRound, Readying, Deciding, Activating, Accepting, Deleting, DeleteTold, DeleteOver, Finished, Stand, stand, told, with_place_row, by_row, end_joins, fewer_bits, place_beside, without_pair, join_at, join_one, is_full, with_children, split_at_place, split_one, is_due, end_settling, settle_next, align_one, aligning, ready_one, readying, decided, accepted_if, does_lose, unmarked, deleting, delete_told, activate_then, turn_at, turn, turns}
use Rattle.pass_model.specs.Messages.{Message, message, message_if, of_row, activate_to, activate_message, align_to, align_message, delete_to, message_of, after_message, is_round}
use Rattle.pass_model.proofs.Numbers.{same-test}
use Rattle.pass_model.proofs.Standings.{either-row, either-test}

-- the nodes are those after this message
abbrev After : World → Option Message → Stand → Type 0
After w m x = x.world.nodes ≡ after_message m w.nodes

-- the message of the row, where the turn is with the row
after-row : (w : World) (o : Option Row) (x : Stand) (f : Row → Stand) (m : Row → Option Message) → After w None x → ((r : Row) → After w (m r) (f r)) → After w (of_row o m) (by_row o x f)
after-row w None x f m none some = none
after-row w (Some r) x f m none some = some r

-- one node is told something, or nothing
told-is : (w : World) (k : ℕ) (f : ℕ → Node → Node) (c : Bool) (g : Node → Node) (m : Option Message) → ((x : Node) → f k x ≡ cond c (g x) x) → (λ n. cond (n == k) (g (w.nodes n)) (w.nodes n)) ≡ after_message m w.nodes
    → (told k f w).nodes ≡ after_message (cond c m None) w.nodes
told-is w k f c g m is said = (λ i n. by_test n (n == k) refl i) ∙ by_told c
  where
    by_test : (n : ℕ) (t : Bool) → (n == k) ≡ t → cond t (f n (w.nodes n)) (w.nodes n) ≡ cond t (cond c (g (w.nodes n)) (w.nodes n)) (w.nodes n)
    by_test n true e = ap (λ j. f j (w.nodes n)) (eqb-true n k e) ∙ is (w.nodes n)
    by_test n false e = refl

    same : (t : Bool) (x : Node) → cond t x x ≡ x
    same true x = refl
    same false x = refl

    by_told : (u : Bool) → (λ n. cond (n == k) (cond u (g (w.nodes n)) (w.nodes n)) (w.nodes n)) ≡ after_message (cond u m None) w.nodes
    by_told true = said
    by_told false = λ i n. same (n == k) (w.nodes n) i

-- and only while there are nodes
below-is : (w : World) (t c : Bool) (m : Option Message) (x y : Stand) → x.world.nodes ≡ after_message (cond c m None) w.nodes → After w None y → After w (cond (t && c) m None) (cond t x y)
below-is w true c m x y f g = f
below-is w false c m x y f g = g

nobody : (w : World) (k : ℕ) → (λ n. cond (n == k) (w.nodes n) (w.nodes n)) ≡ w.nodes
nobody w k = λ i n. same (n == k) (w.nodes n) i
  where
    same : (t : Bool) (x : Node) → cond t x x ≡ x
    same true x = refl
    same false x = refl

align-said : (w : World) (k : ℕ) (b : Low) (z : Shape) → (λ n. cond (n == k) (aligned b z (w.nodes n)) (w.nodes n)) ≡ after_message (align_to b k z) w.nodes
align-said w k b Nothing = nobody w k
align-said w k b (Same serial) = nobody w k
align-said w k b Over = refl
align-said w k b Inside = refl

delete-said : (w : World) (k : ℕ) (b : Low) (z : Shape) → (λ n. cond (n == k) (delete_shown b z (w.nodes n)) (w.nodes n)) ≡ after_message (delete_to b k z) w.nodes
delete-said w k b (Same serial) = refl
delete-said w k b Nothing = nobody w k
delete-said w k b Over = nobody w k
delete-said w k b Inside = nobody w k

activate-said : (w : World) (r : Row) → activate_nodes r w.nodes ≡ after_message (activate_message r) w.nodes
activate-said w r = by_tests r.accepted r.active
  where
    -- the tests are of the node that is asked for and of the one that is told
    turned : (b : Low) (m n : ℕ) (x : Node) → cond (m == n) (activate_node b x) x ≡ cond (n == m) (activate_node b x) x
    turned b m n x = ap (λ t. cond t (activate_node b x) x) (same-test m n)

    by_tests : (a : Bool) (o : Option ℕ) → (λ n. cond (not a && is_active o n) (activate_node r.bucket (w.nodes n)) (w.nodes n)) ≡ after_message (cond a None (activate_to r.bucket o)) w.nodes
    by_tests true o = refl
    by_tests false None = refl
    by_tests false (Some m) = λ i n. turned r.bucket m n (w.nodes n) i

module _ (s : Settings) where
  joins-end-same : (t : Time) (w : World) → After w None (end_joins t w)
  joins-end-same First w = refl
  joins-end-same (Again made) w = refl

  fewer-same : (t : Time) (bits : ℕ) (w : World) → After w None (fewer_bits t bits w)
  fewer-same t bits w = either-test (After w None) (nat_le bits 2) (end_joins t w) (stand (Joining t (bits - 1) (fewer (bits - 1) w.rows)) w) (joins-end-same t w) refl

  settles-end-same : (t : Time) (w : World) → After w None (end_settling t w)
  settles-end-same First w = refl
  settles-end-same (Again made) w = refl

  abbrev next_row : Time → ℕ → World → Stand
  next_row t at w = stand (Settling t (suc at)) w

  pub says : (d : Doing) (w : World) → is_round d ≡ false → After w (message_of s d w) (turn_at s d w)
  says (ResendingDelete []) w e = refl
  says (ResendingDelete (d ∷ ds)) w e = refl
  says (ResentDelete deletes) w e = refl
  says (ResendingActivate at) w e = after-row w (slice_get w.rows at) (stand (Rounding 0) w) (activate_then (ResentActivate at) w) activate_message refl (λ r. activate-said w r)
  says (ResentActivate at answered) w e = either-row (After w None) (slice_get w.rows at) (stand (ResendingActivate (suc at)) w) (λ r. stand (ResendingActivate (suc at)) (with_place_row at (accepted_if answered r) w)) refl (λ r. refl)
  says (Rounding at) w e = cc
  says (Joining t bits at) w e = either-test (After w None) (nat_lt at (fewer (bits + 1) w.rows)) (by_row (slice_get w.rows at) (fewer_bits t bits w) (join_at s t bits at w)) (fewer_bits t bits w)
      (either-row (After w None) (slice_get w.rows at) (fewer_bits t bits w) (join_at s t bits at w) (fewer-same t bits w) (λ a. pair-same a (slice_get (remove w.rows at) (place_beside s bits at a w.rows)))) (fewer-same t bits w)
    where
      pair-same : (a : Row) (o : Option Row) → After w None (by_row o (stand (Joining t bits (suc at)) w) (λ two. stand (JoinTold t bits at (parent_of a.bucket) 0)
          (record { nodes = w.nodes; rows = with_row (merged (parent_of a.bucket) a two) (without_pair at (place_beside s bits at a w.rows) w.rows) })))
      pair-same a None = refl
      pair-same a (Some two) = refl
  says (JoinTold t bits at p k) w e = below-is w (nat_lt k 32) (s.serving k) (message k (body.Join p)) (stand (JoinTold t bits at p (suc k)) (told k (join_one s p) w)) (stand (JoinRound t bits at p) w)
      (told-is w k (join_one s p) (s.serving k) (join_node p) (message k (body.Join p)) (λ x. refl) refl) refl
  says (JoinRound t bits at p) w e = cc
  says (Splitting at) w e = either-row (After w None) (slice_get w.rows at) (stand (Settling First 0) w) (split_at_place s at w) refl
      (λ r. either-test (After w None) (is_full s r) (stand (SplitTold at r.bucket 0) (record { nodes = w.nodes; rows = with_children at r w.rows })) (stand (Splitting (suc at)) w) refl refl)
  says (SplitTold at p k) w e = below-is w (nat_lt k 32) (s.serving k) (message k (body.Split (first_child p))) (stand (SplitTold at p (suc k)) (told k (split_one s p) w)) (stand (SplitFirst at p) w)
      (told-is w k (split_one s p) (s.serving k) (split_node (first_child p)) (message k (body.Split (first_child p))) (λ x. refl) refl) refl
  says (SplitFirst at p) w e = cc
  says (SplitSecond at p) w e = cc
  says (Settling t at) w e = either-row (After w None) (slice_get w.rows at) (end_settling t w) (settle_next t at w) (settles-end-same t w) (λ r. either-test (After w None) (is_due t r.bucket) (stand (Aligning t at 0 false) w) (next_row t at w) refl refl)
  says (Aligning t at k any) w e = after-row w (slice_get w.rows at) (next_row t at w) (aligning s t at k any w) (align_message s k) refl
      (λ r. below-is w (nat_lt k 32) (needs_align s r k) (align_to r.bucket k (r.shown k)) (stand (Aligning t at (suc k) (needs_align s r k || any)) (told k (align_one s r) w)) (cond any (stand (AlignRound t at) w) (stand (Readying t at 0 false) w))
      (told-is w k (align_one s r) (needs_align s r k) (aligned r.bucket (r.shown k)) (align_to r.bucket k (r.shown k)) (λ x. refl) (align-said w k r.bucket (r.shown k)))
      (either-test (After w None) any (stand (AlignRound t at) w) (stand (Readying t at 0 false) w) refl refl))
  says (AlignRound t at) w e = cc
  says (Readying t at k ready) w e = after-row w (slice_get w.rows at) (next_row t at w) (readying s t at k ready w) (λ r. message_if (nat_lt k 32 && is_asked s r k) k (body.Ready r.bucket)) refl
      (λ r. below-is w (nat_lt k 32) (is_asked s r k) (message k (body.Ready r.bucket)) (stand (Readying t at (suc k) (cond (is_active (to_be_active s r) k) (can_ready r.bucket (w.nodes k)) ready)) (told k (ready_one s r) w)) (stand (Deciding t at ready) w)
      (told-is w k (ready_one s r) (is_asked s r k) (ready_node r.bucket) (message k (body.Ready r.bucket)) (λ x. refl) refl) refl)
  says (Deciding t at ready) w e = either-row (After w None) (slice_get w.rows at) (next_row t at w) (λ r. stand (Activating t at) (with_place_row at (decided s ready r) w)) refl (λ r. refl)
  says (Activating t at) w e = after-row w (slice_get w.rows at) (next_row t at w) (activate_then (Accepting t at) w) activate_message refl (λ r. activate-said w r)
  says (Accepting t at answered) w e = either-row (After w None) (slice_get w.rows at) (next_row t at w) (λ r. stand (Deleting t at 0) (with_place_row at (accepted_if answered r) w)) refl (λ r. refl)
  says (Deleting t at k) w e = either-row (After w None) (slice_get w.rows at) (next_row t at w) (deleting s t at k w) refl
      (λ r. either-test (After w None) (nat_lt k 32) (cond (does_lose s r k) (stand (DeleteTold t at k) (with_place_row at (unmarked k r) w)) (stand (Deleting t at (suc k)) w)) (next_row t at w)
      (either-test (After w None) (does_lose s r k) (stand (DeleteTold t at k) (with_place_row at (unmarked k r) w)) (stand (Deleting t at (suc k)) w) refl refl) refl)
  says (DeleteTold t at k) w e = after-row w (slice_get w.rows at) (next_row t at w) (delete_told t at k w) (λ r. delete_to r.bucket k (r.shown k)) refl
      (λ r. told-is w k (λ n. delete_shown r.bucket (r.shown n)) true (delete_shown r.bucket (r.shown k)) (delete_to r.bucket k (r.shown k)) (λ x. refl) (delete-said w k r.bucket (r.shown k)))
  says (DeleteOver t at k) w e = refl
  says Finished w e = refl

  -- ---- a message changes no row

  abbrev SameRows : World → Stand → Type 0
  SameRows w x = x.world.rows ≡ w.rows

  pub rows-stay : (d : Doing) (w : World) (m : Message) → message_of s d w ≡ Some m → SameRows w (turn_at s d w)
  rows-stay (ResendingDelete []) w m h = cc
  rows-stay (ResendingDelete (d ∷ ds)) w m h = refl
  rows-stay (ResentDelete deletes) w m h = cc
  rows-stay (ResendingActivate at) w m h = either-row (SameRows w) (slice_get w.rows at) (stand (Rounding 0) w) (activate_then (ResentActivate at) w) refl (λ r. refl)
  rows-stay (ResentActivate at answered) w m h = cc
  rows-stay (Rounding at) w m h = cc
  rows-stay (Joining t bits at) w m h = cc
  rows-stay (JoinTold t bits at p k) w m h = either-test (SameRows w) (nat_lt k 32) (stand (JoinTold t bits at p (suc k)) (told k (join_one s p) w)) (stand (JoinRound t bits at p) w) refl refl
  rows-stay (JoinRound t bits at p) w m h = cc
  rows-stay (Splitting at) w m h = cc
  rows-stay (SplitTold at p k) w m h = either-test (SameRows w) (nat_lt k 32) (stand (SplitTold at p (suc k)) (told k (split_one s p) w)) (stand (SplitFirst at p) w) refl refl
  rows-stay (SplitFirst at p) w m h = cc
  rows-stay (SplitSecond at p) w m h = cc
  rows-stay (Settling t at) w m h = cc
  rows-stay (Aligning t at k any) w m h = either-row (SameRows w) (slice_get w.rows at) (next_row t at w) (aligning s t at k any w) refl
      (λ r. either-test (SameRows w) (nat_lt k 32) (stand (Aligning t at (suc k) (needs_align s r k || any)) (told k (align_one s r) w)) (cond any (stand (AlignRound t at) w) (stand (Readying t at 0 false) w)) refl
      (either-test (SameRows w) any (stand (AlignRound t at) w) (stand (Readying t at 0 false) w) refl refl))
  rows-stay (AlignRound t at) w m h = cc
  rows-stay (Readying t at k ready) w m h = either-row (SameRows w) (slice_get w.rows at) (next_row t at w) (readying s t at k ready w) refl
      (λ r. either-test (SameRows w) (nat_lt k 32) (stand (Readying t at (suc k) (cond (is_active (to_be_active s r) k) (can_ready r.bucket (w.nodes k)) ready)) (told k (ready_one s r) w)) (stand (Deciding t at ready) w) refl refl)
  rows-stay (Deciding t at ready) w m h = cc
  rows-stay (Activating t at) w m h = either-row (SameRows w) (slice_get w.rows at) (next_row t at w) (activate_then (Accepting t at) w) refl (λ r. refl)
  rows-stay (Accepting t at answered) w m h = cc
  rows-stay (Deleting t at k) w m h = cc
  rows-stay (DeleteTold t at k) w m h = either-row (SameRows w) (slice_get w.rows at) (next_row t at w) (delete_told t at k w) refl (λ r. refl)
  rows-stay (DeleteOver t at k) w m h = cc
  rows-stay Finished w m h = cc

  -- ---- turn after turn

  pub turns-follow : (m n : ℕ) (x : Stand) → turns s (m + n) x ≡ turns s n (turns s m x)
  unfolding turns
  turns-follow zero n x = let e : zero + n ≡ n = omega arith in ap (λ k. turns s k x) e
  turns-follow (suc m) n x = let e : suc m + n ≡ suc (m + n) = omega arith in ap (λ k. turns s k x) e ∙ turns-follow m n (turn s x)

  pub one-turn : (x : Stand) → turns s 1 x ≡ turn_at s x.doing x.world
  unfolding turns turn
  one-turn x = refl

  pub next-says : (x : Stand) → is_round x.doing ≡ false → (turn s x).world.nodes ≡ after_message (message_of s x.doing x.world) x.world.nodes
  unfolding turn
  next-says x e = says x.doing x.world e

  pub next-rows : (x : Stand) (m : Message) → message_of s x.doing x.world ≡ Some m → (turn s x).world.rows ≡ x.world.rows
  unfolding turn
  next-rows x m h = rows-stay x.doing x.world m h
