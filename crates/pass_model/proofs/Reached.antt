-- What holds where the machine stands, having begun with these nodes and rows.
use Rattle.std.proofs.Common.{◌≡◌, ◌<◌, ◌≤◌, ℕ, suc, Bool, List, Some, slice_get}
use Rattle.std.specs.List.{remove}
use Rattle.bucket_ids.specs.Buckets.{Low, IsBucket, second_child}
use Rattle.lane_rest.specs.Sets.{any_below}
use Rattle.pass_model.specs.Nodes.{join_node}
use Rattle.pass_model.specs.Rows.{Settings, Row}
use Rattle.pass_model.specs.Settling.{Place, needs_align, round_at, delete_at}
use Rattle.pass_model.specs.Passes.{World, AllRows, each_row, rounds, settle_all, settle_if, to_all, CanJoin, Joins, NoPair, merged, Splits, NotFull, child_row, split_nodes, first_nodes, first_row, everywhere, nowhere, Passes}
use Rattle.pass_model.specs.Sweeps.{Before, with_row, AreSplitBefore, AreJoinedBefore}
use Rattle.pass_model.specs.Turns.{Time, First, Again, Doing, ResendingDelete, ResentDelete, ResendingActivate, ResentActivate, Rounding, Joining, JoinTold, JoinRound, Splitting, SplitTold, SplitFirst, SplitSecond, Settling, Aligning, AlignRound, Readying, Deciding, Activating, Accepting, Deleting, DeleteTold, DeleteOver, Finished, Stand, is_due, without_pair, with_children, join_one, split_one, decided, accepted_if}
use Rattle.pass_model.specs.Orders.{AreInOrder}
use Rattle.pass_model.proofs.Walking.{from_node, each_from, goes_from}
use Rattle.pass_model.proofs.RoundedRows.{IsRounded}
use Rattle.pass_model.proofs.SettledPlaces.{after_ready, after_align, align_from, ready_from, delete_from, delete_next}

module _ (s : Settings) (b : World) where
  -- ---- what is behind

  pub record FirstJoined (w : World) : Type 0 where
    pub made : Low → Bool
    pub joins : Joins s (rounds s b) everywhere w made
    pub no_pair : NoPair s w.rows

  pub record AllSplit (w : World) : Type 0 where
    pub joined : World
    pub first : FirstJoined joined
    pub splits : Splits s joined w
    pub not_full : AllRows (NotFull s) w.rows

  pub record AllSettled (w : World) : Type 0 where
    pub parted : World
    pub split : AllSplit parted
    pub settled : w ≡ settle_all s parted

  pub record JoinedAgain (made : List Low) (w : World) : Type 0 where
    pub before : World
    pub settled : AllSettled before
    pub joins : Joins s before nowhere w (is_due (Again made))
    pub no_pair : NoPair s w.rows

  -- ---- joins

  -- where they begin
  abbrev pub ToJoin : Time → World → Type 0
  ToJoin First w = w ≡ rounds s b
  ToJoin (Again made) w = AllSettled w

  abbrev pub JoinsNow : Time → World → World → ℕ → ℕ → Type 0
  JoinsNow First from w bits at = (now : Low → Bool) × AreJoinedBefore s from w everywhere now bits at
  JoinsNow (Again made) from w bits at = AreJoinedBefore s from w nowhere (is_due (Again made)) bits at

  pub record IsJoining (t : Time) (bits at : ℕ) (w : World) : Type 0 where
    pub from : World
    pub origin : ToJoin t from
    pub now : JoinsNow t from w bits at
    pub rounded : AllRows (IsRounded s) w.rows

  -- a join was decided
  pub record IsJoinOf (t : Time) (bits at : ℕ) (p : Low) : Type 0 where
    pub before : World
    pub joining : IsJoining t bits at before
    pub order : AreInOrder s before.rows
    pub one : Row
    pub two : Row
    pub other : ℕ
    pub found : slice_get before.rows at ≡ Some one
    pub beside : slice_get (remove before.rows at) other ≡ Some two
    pub can : CanJoin s p one two
    pub bits_are : one.bucket.bits ≡ bits
    pub behind : at ≤ other
    pub valid : IsBucket p

  abbrev pub JoinedRows : {t : Time} {bits at : ℕ} {p : Low} → IsJoinOf t bits at p → List Row → Type 0
  JoinedRows {t} {bits} {at} {p} j rows = rows ≡ with_row (merged p j.one j.two) (without_pair at j.other j.before.rows)

  -- ---- splits

  pub record IsSplitting (at : ℕ) (w : World) : Type 0 where
    pub joined : World
    pub first : FirstJoined joined
    pub now : AreSplitBefore s joined w at
    pub rounded : AllRows (IsRounded s) w.rows

  -- a split was decided
  pub record IsSplitOf (at : ℕ) (p : Low) : Type 0 where
    pub before : World
    pub splitting : IsSplitting at before
    pub order : AreInOrder s before.rows
    pub row : Row
    pub found : slice_get before.rows at ≡ Some row
    pub few : row.bucket.bits < 58
    pub full : s.split_at < row.documents
    pub bucket : p ≡ row.bucket

  -- ---- settling

  abbrev pub ToSettle : Time → World → Type 0
  ToSettle First w = AllSplit w
  ToSettle (Again made) w = JoinedAgain made w

  abbrev pub all_due : Time → World → World
  all_due t from = each_row (settle_if s (is_due t)) from.nodes from.rows

  pub record IsSettling (t : Time) (at : ℕ) (w : World) : Type 0 where
    pub from : World
    pub origin : ToSettle t from
    pub left : each_from (settle_if s (is_due t)) at w.nodes w.rows ≡ all_due t from
    pub rounded : AllRows (IsRounded s) w.rows

  -- in the row of a place, of which this is what is left to do
  pub record IsInRow (t : Time) (at : ℕ) (rest : Place → Place) (w : World) : Type 0 where
    pub from : World
    pub origin : ToSettle t from
    pub row : Row
    pub found : slice_get w.rows at ≡ Some row
    pub left : goes_from (settle_if s (is_due t)) at (rest (record { nodes = w.nodes; row = row })) w.rows ≡ all_due t from
    pub rounded : AllRows (IsRounded s) w.rows

  -- of the nodes below a number any had to be told something
  abbrev pub ToldAny : ℕ → ℕ → Bool → World → Type 0
  ToldAny at k any w = (r : Row) → slice_get w.rows at ≡ Some r → any ≡ any_below (needs_align s r) k

  -- ---- where it stands

  abbrev pub Reached : Doing → World → Type 0
  Reached (ResendingDelete deletes) w = ⊥
  Reached (ResentDelete deletes) w = ⊥
  Reached (ResendingActivate at) w = ⊥
  Reached (ResentActivate at answered) w = ⊥
  Reached (Rounding at) w = (each_from (round_at s) at w.nodes w.rows ≡ rounds s b) × Before (IsRounded s) at w.rows
  Reached (Joining t bits at) w = IsJoining t bits at w
  Reached (JoinTold t bits at p k) w = (j : IsJoinOf t bits at p) × JoinedRows j w.rows × (from_node k (join_one s p) w.nodes ≡ to_all s (join_node p) j.before.nodes)
  Reached (JoinRound t bits at p) w = (j : IsJoinOf t bits at p) × JoinedRows j w.rows × (w.nodes ≡ to_all s (join_node p) j.before.nodes)
  Reached (Splitting at) w = IsSplitting at w
  Reached (SplitTold at p k) w = (j : IsSplitOf at p) × (w.rows ≡ with_children at j.row j.before.rows) × (from_node k (split_one s p) w.nodes ≡ split_nodes s j.row j.before.nodes)
  Reached (SplitFirst at p) w = (j : IsSplitOf at p) × (w.rows ≡ with_children at j.row j.before.rows) × (w.nodes ≡ split_nodes s j.row j.before.nodes)
  Reached (SplitSecond at p) w = (j : IsSplitOf at p) × (w.rows ≡ with_row (child_row (second_child j.row.bucket) j.row) (with_row (first_row s j.row j.before.nodes) (remove j.before.rows at))) × (w.nodes ≡ first_nodes s j.row j.before.nodes)
  Reached (Settling t at) w = IsSettling t at w
  Reached (Aligning t at k any) w = IsInRow t at (λ x. after_align s (align_from s k x)) w × ToldAny at k any w × (k ≤ 32)
  Reached (AlignRound t at) w = IsInRow t at (λ x. after_align s (round_at s x)) w
  Reached (Readying t at k ready) w = IsInRow t at (λ x. after_ready s (ready_from s k ready x)) w × (k ≤ 32)
  Reached (Deciding t at ready) w = IsInRow t at (λ x. after_ready s (record { nodes = x.nodes; row = decided s ready x.row })) w
  Reached (Activating t at) w = IsInRow t at (after_ready s) w
  Reached (Accepting t at answered) w = IsInRow t at (λ x. delete_at s (record { nodes = x.nodes; row = accepted_if answered x.row })) w
  Reached (Deleting t at k) w = IsInRow t at (delete_from s k) w × (k ≤ 32)
  Reached (DeleteTold t at k) w = IsInRow t at (delete_next s k) w × (k < 32)
  Reached (DeleteOver t at k) w = IsInRow t at (delete_from s (suc k)) w × (k < 32)
  Reached Finished w = Passes s b w

  abbrev pub Standing : Stand → Type 0
  Standing x = AreInOrder s x.world.rows × Reached x.doing x.world
