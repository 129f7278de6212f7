-- How many rows a decision leaves, and what the machine knows behind it.
use Rattle.std.proofs.Common.{◌≡◌, ◌∙◌, not, ◌<◌, ◌≤◌, ◌+◌, ℕ, zero, suc, Bool, true, false, cond, List, [], ◌∷◌, Option, Some, None, inl, inr, refl, sym, ap, subst, arith, nat_lt, length, slice_get, if◌then◌else◌}
use Rattle.std.specs.List.{filter, remove}
use Rattle.std.specs.BTreeMap.{BTreeMap, Updates, get}
use Rattle.std.specs.Ordering.{nat_cmp, is_eq}
use Rattle.std.proofs.lemmas.Bool.{cases_lt}
use Rattle.std.proofs.lemmas.List.{length-map}
use Rattle.std.proofs.lemmas.List.Edits.{length-remove}
use Rattle.std.proofs.lemmas.Option.{slice_get_within}
use mathlib.Core.Bool.{true≢false}
use Rattle.bucket_ids.specs.Buckets.{Low, covers, first_child}
use Rattle.bucket_ids.specs.Printed.{number_of}
use Rattle.bucket_db.specs.Changes.{with_row, first_half, second_half, split_at, with_halves, at_row, without_delete}
use Rattle.bucket_db.specs.Rows.{Rows, AreRows, buckets_of}
use Rattle.bucket_db.specs.declared.row.Row.{Row}
use Rattle.bucket_db.proofs.RowLaws.{pair_of, are_halves, halves_go}
use Rattle.cluster_states.specs.declared.cluster_state.ClusterState.{ClusterState}
use Rattle.messages.specs.declared.decision.Decision.{Decision}
use Rattle.messages.specs.declared.decision.Decision.TheVariants as decision
use Rattle.distributor_part.specs.Parts.{Part, rows_of}
use Rattle.distributor_part.specs.Upkeep.{SplitsRow, JoinsRows, AcceptsAt}
use Rattle.lane_journals.specs.declared.event.LaneEvent.{LaneEvent}
use Rattle.lane_states.specs.declared.lane_state.LaneState.{LaneState}
use Rattle.lane_states.specs.LaneStates.{part_of}
use Rattle.pass_machine.specs.declared.doing.Settle.TheVariants as settle
use Rattle.pass_machine.specs.declared.doing.Doing.{Doing}
use Rattle.pass_machine.specs.declared.doing.Doing.TheVariants.{ResentDelete, ResentActivate, Rounding, Joining, JoinRound, Splitting, SplitFirst, SplitSecond, Settling}
use Rattle.pass_machine.specs.declared.notes.RowNote.{RowNote}
use Rattle.pass_machine.specs.Turns.{View, decided, accepted, rounded}
use Rattle.pass_machine.specs.Going.{IsDecided, IsAccepted, IsRounded, AreLeft, Forgets}
use Rattle.pass_runs.specs.Steps.{IsDecidedBy}
use Rattle.lane_upkeep.specs.declared.owner.Owner.{Owner}
use Rattle.lane_upkeep.specs.Noted.{IsNoted, AreNotes}
use Rattle.lane_upkeep.specs.Passing.{rows_in}
use Rattle.lane_upkeep.specs.UnderWay.{HasBucket, KnowsDoing}
use Rattle.lane_upkeep.proofs.UnderWay.{KeepsRows, DecidesAt}

-- ---- rows that come and go

length-placed : (x : Row) (rows : List Row) → length (with_row x rows) ≡ suc (length rows)
length-placed x [] = refl
length-placed x (y ∷ ys) = by_test (nat_lt (number_of y.bucket) (number_of x.bucket)) (length-placed x ys)
  where
    by_test : (t : Bool) → length (with_row x ys) ≡ suc (length ys) → length (if t then y ∷ with_row x ys else x ∷ y ∷ ys) ≡ suc (suc (length ys))
    by_test true e = ap suc e
    by_test false e = refl

placed-in : (x : Row) (rows : List Row) → (k : ℕ) × (slice_get (with_row x rows) k ≡ Some x)
placed-in x [] = (0, refl)
placed-in x (y ∷ ys) = by_test (nat_lt (number_of y.bucket) (number_of x.bucket)) (placed-in x ys)
  where
    by_test : (t : Bool) → (k : ℕ) × (slice_get (with_row x ys) k ≡ Some x) → (k : ℕ) × (slice_get (if t then y ∷ with_row x ys else x ∷ y ∷ ys) k ≡ Some x)
    by_test true i = (suc i.0, i.1)
    by_test false i = (0, refl)

placed-keeps : (x z : Row) (rows : List Row) (k : ℕ) → slice_get rows k ≡ Some z → (j : ℕ) × (slice_get (with_row x rows) j ≡ Some z)
placed-keeps x z [] k h = cc
placed-keeps x z (y ∷ ys) k h = by_test (nat_lt (number_of y.bucket) (number_of x.bucket)) k h (λ j g. placed-keeps x z ys j g)
  where
    by_test : (t : Bool) (k : ℕ) → slice_get (y ∷ ys) k ≡ Some z → ((j : ℕ) → slice_get ys j ≡ Some z → (i : ℕ) × (slice_get (with_row x ys) i ≡ Some z))
        → (j : ℕ) × (slice_get (if t then y ∷ with_row x ys else x ∷ y ∷ ys) j ≡ Some z)
    by_test true zero g ih = (0, g)
    by_test true (suc k) g ih = let i = ih k g in (suc i.0, i.1)
    by_test false k g ih = (suc k, g)

length-at-row : (at : ℕ) (f : Row → Row) (rows : List Row) → length (at_row at f rows) ≡ length rows
length-at-row at f [] = refl
length-at-row zero f (r ∷ rows) = refl
length-at-row (suc at) f (r ∷ rows) = ap suc (length-at-row at f rows)

-- ---- what a part does with its rows

module _ (p q : Part) where
  -- the rows of a part that is opened
  rows-were : (d : Rows) → p.rows ≡ Some d → rows_of p.rows ≡ d.rows
  rows-were d e = ap rows_of e

  pub splits_count : (at : ℕ) → SplitsRow p q at → length (rows_of q.rows) ≡ length (rows_of p.rows) + 1
  splits_count at x =
      let d = x.rows in
      let now : rows_of q.rows ≡ split_at at d.rows = ap (λ (y : Part). rows_of y.rows) x.after in
      let halves : split_at at d.rows ≡ with_row (second_half x.row) (with_row (first_half x.row) (remove d.rows at)) = ap (λ (r : Option Row). with_halves r (remove d.rows at)) x.found in
      let two : length (with_row (second_half x.row) (with_row (first_half x.row) (remove d.rows at))) ≡ suc (suc (length (remove d.rows at))) =
      length-placed (second_half x.row) (with_row (first_half x.row) (remove d.rows at)) ∙ ap suc (length-placed (first_half x.row) (remove d.rows at)) in
      let gone : length (remove d.rows at) + 1 ≡ length d.rows = length-remove d.rows at (slice_get_within d.rows at x.row x.found) in
      let before : length (rows_of p.rows) ≡ length d.rows = ap length (rows-were d x.opened) in
      let after : length (rows_of q.rows) ≡ suc (suc (length (remove d.rows at))) = ap length (now ∙ halves) ∙ two in
      omega (arith, gone, before, after)

  pub joins_count : (at : ℕ) → AreRows p.lane (buckets_of (rows_of p.rows)) → JoinsRows p q at → length (rows_of q.rows) + 1 ≡ length (rows_of p.rows)
  joins_count at whole x =
      let d = x.rows in
      let before : rows_of p.rows ≡ d.rows = rows-were d x.opened in
      let h : AreRows d.lane (buckets_of d.rows) = subst (λ (l : Low). AreRows l (buckets_of d.rows)) (sym x.same_lane) (subst (λ (l : List Row). AreRows p.lane (buckets_of l)) before whole) in
      let there = pair_of d.lane d.rows at x.row x.other x.found x.joinable in
      let some = h.bucket.some in
      let inside = (x.joinable).inside in
      let above : 1 < x.row.bucket.bits = omega (arith, some, inside) in
      let halves = are_halves d.lane d.rows at there.place x.row x.other h x.found there.found (x.joinable).sibling above in
      let own = slice_get_within d.rows at x.row x.found in
      let others = slice_get_within d.rows there.place x.other there.found in
      let left : length (filter (λ (r : Row). not (covers (x.joined).bucket r.bucket)) d.rows) + 2 ≡ length d.rows = elim (cases_lt at there.place) [
        | inl less ↦ ap (λ (l : List Row). length l + 2) (halves_go d.rows at there.place x.row (x.joined).bucket halves x.found own others (x.is_joined).bucket at there.place (λ up. (refl, refl)) (λ down. absurd (omega (arith, less, down))))
            ∙ both-gone d.rows at there.place less others
        | inr more ↦ ap (λ (l : List Row). length l + 2) (halves_go d.rows at there.place x.row (x.joined).bucket halves x.found own others (x.is_joined).bucket there.place at (λ up. absurd (omega (arith, more, up))) (λ down. (refl, refl)))
            ∙ both-gone d.rows there.place at (apart at there.place more halves.apart) own
      ] in
      let count : length (rows_of q.rows) ≡ suc (length (filter (λ (r : Row). not (covers (x.joined).bucket r.bucket)) d.rows)) =
      ap (λ (y : Part). length (rows_of y.rows)) x.after ∙ length-placed x.joined (filter (λ (r : Row). not (covers (x.joined).bucket r.bucket)) d.rows) in
      let same : length (rows_of p.rows) ≡ length d.rows = ap length before in
      omega (arith, left, count, same)
    where
      apart : (m n : ℕ) → n ≤ m → (m ≡ n → ⊥) → n < m
      apart m n h off = elim (cases_lt n m) [ inl less ↦ less | inr more ↦ absurd (off (omega (arith, h, more))) ]

      both-gone : (rows : List Row) (i j : ℕ) → i < j → j < length rows → length (remove (remove rows j) i) + 2 ≡ length rows
      both-gone rows i j less within =
          let one = length-remove rows j within in
          let two = length-remove (remove rows j) i (omega (arith, one, less, within)) in
          omega (arith, one, two)

  pub accepts_count : (at : ℕ) → AcceptsAt p q at → length (rows_of q.rows) ≡ length (rows_of p.rows)
  accepts_count at x = ap (λ (y : Part). length (rows_of y.rows)) x.after ∙ (length-at-row at (λ r. record r { accepted = true }) (x.rows).rows ∙ sym (ap length (rows-were x.rows x.opened)))

  -- any other decision leaves as many
  keeps-count : (at : ℕ) (x : Decision) → KeepsRows x → IsDecidedBy at x p q → length (rows_of q.rows) ≡ length (rows_of p.rows)
  keeps-count at (decision.RowSplit b) k h = absurd k
  keeps-count at (decision.RowsJoined b) k h = absurd k
  keeps-count at (decision.ActiveOn b n) k x =
      ap (λ (y : Part). length (rows_of y.rows)) x.after ∙ (length-at-row at (λ r. record r { active = Some n; accepted = false }) (x.rows).rows ∙ sym (ap length (rows-were x.rows x.opened)))
  keeps-count at (decision.DeleteFrom b n serial) k x =
      ap (λ (y : Part). length (rows_of y.rows)) x.after ∙ (length-at-row at _ (x.rows).rows ∙ sym (ap length (rows-were x.rows x.opened)))
  keeps-count at (decision.DeleteOver b n) k x =
      ap (λ (y : Part). length (rows_of y.rows)) x.after ∙ (length-map (x.rows).rows (without_delete b n) ∙ sym (ap length (rows-were x.rows x.opened)))
  keeps-count at _ k h = absurd h

  -- ---- how many are left

  module _ (at : ℕ) (x : Decision) (does : IsDecidedBy at x p q) (whole : AreRows p.lane (buckets_of (rows_of p.rows))) (there : at < length (rows_of p.rows)) where
    pub are_left : (d : Doing) → IsDecided (length (rows_of p.rows)) d x → DecidesAt d at x → AreLeft (length (rows_of p.rows)) (length (rows_of q.rows)) d
    are_left (ResentDelete k) i h = keeps-count at x h.1 does
    are_left (Settling t k next) i h = keeps-count at x h.1 does
    are_left (Joining t bits k) i h = by_decision x i does
      where
        by_decision : (y : Decision) → IsDecided (length (rows_of p.rows)) (Joining t bits k) y → IsDecidedBy at y p q → AreLeft (length (rows_of p.rows)) (length (rows_of q.rows)) (Joining t bits k)
        by_decision (decision.RowsJoined b) i z = (subst (λ (n : ℕ). n < length (rows_of p.rows)) h there, joins_count at whole z.0)
        by_decision _ i z = absurd i
    are_left (Splitting k) i h = by_decision x i does
      where
        by_decision : (y : Decision) → IsDecided (length (rows_of p.rows)) (Splitting k) y → IsDecidedBy at y p q → AreLeft (length (rows_of p.rows)) (length (rows_of q.rows)) (Splitting k)
        by_decision (decision.RowSplit b) i z = splits_count at z.0
        by_decision _ i z = absurd i
    are_left _ i h = absurd i

    -- what the decision waits for where there are so many rows then
    pub decided_still : (d : Doing) → IsDecided (length (rows_of p.rows)) d x → DecidesAt d at x → IsDecided (length (rows_of q.rows)) d x
    decided_still (ResentDelete k) i h = subst (λ (n : ℕ). k < n) (sym (keeps-count at x h.1 does)) i
    decided_still (Joining t bits k) i h = i
    decided_still (Splitting k) i h = i
    decided_still (Settling t k next) i h = i
    decided_still _ i h = absurd i

-- ---- what is known

module _ (c e : LaneState) (o : Owner) where
  made-bucket : (rows : List Row) (x : Row) (k : ℕ) (b : Low) → rows_in e o ≡ rows → slice_get rows k ≡ Some x → x.bucket ≡ b → HasBucket e o b
  made-bucket rows x k b same found is = (k, x, ap (λ (l : List Row). slice_get l k) same ∙ found, is)

  joined-there : (at : ℕ) (x : JoinsRows (part_of c o.distributor) (part_of e o.distributor) at) (b : Low) → (x.joined).bucket ≡ b → HasBucket e o b
  joined-there at x b is =
      let left = filter (λ (r : Row). not (covers (x.joined).bucket r.bucket)) (x.rows).rows in
      let k = placed-in x.joined left in
      made-bucket (with_row x.joined left) x.joined k.0 b (ap (λ (y : Part). rows_of y.rows) x.after) k.1 is

  half-there : (at : ℕ) (x : SplitsRow (part_of c o.distributor) (part_of e o.distributor) at) (b : Low) → (x.row).bucket ≡ b → HasBucket e o (first_child b)
  half-there at x b is =
      let rest = remove (x.rows).rows at in
      let k = placed-in (first_half x.row) rest in
      let j = placed-keeps (second_half x.row) (first_half x.row) (with_row (first_half x.row) rest) k.0 k.1 in
      made-bucket (with_row (second_half x.row) (with_row (first_half x.row) rest)) (first_half x.row) j.0 (first_child b)
      (ap (λ (y : Part). rows_of y.rows) x.after ∙ ap (λ (r : Option Row). with_halves r rest) x.found) j.1 (ap first_child is)

  pub decided_known : (many at : ℕ) (x : Decision) (d : Doing) → IsDecided many d x → IsDecidedBy at x (part_of c o.distributor) (part_of e o.distributor) → KnowsDoing e o (decided d x)
  decided_known many at x (ResentDelete k) i does = tt
  decided_known many at x (Joining t bits k) i does = by_decision x i does
    where
      by_decision : (y : Decision) → IsDecided many (Joining t bits k) y → IsDecidedBy at y (part_of c o.distributor) (part_of e o.distributor) → KnowsDoing e o (decided (Joining t bits k) y)
      by_decision (decision.RowsJoined b) i z = joined-there at z.0 b z.1
      by_decision _ i z = absurd i
  decided_known many at x (Splitting k) i does = by_decision x i does
    where
      by_decision : (y : Decision) → IsDecided many (Splitting k) y → IsDecidedBy at y (part_of c o.distributor) (part_of e o.distributor) → KnowsDoing e o (decided (Splitting k) y)
      by_decision (decision.RowSplit b) i z = half-there at z.0 b z.1
      by_decision _ i z = absurd i
  decided_known many at x (Settling t k (settle.Deciding ready)) i does = tt
  decided_known many at x (Settling t k (settle.Accepting answered)) i does = tt
  decided_known many at x (Settling t k (settle.Deleting n)) i does = tt
  decided_known many at x (Settling t k (settle.DeleteOver n)) i does = tt
  decided_known many at x _ i does = absurd i

  pub accepted_known : (many : ℕ) (d : Doing) → IsAccepted many d → KnowsDoing e o (accepted d)
  accepted_known many (ResentActivate k taken) i = tt
  accepted_known many (Settling t k (settle.Accepting answered)) i = tt
  accepted_known many _ i = absurd i

  pub rounded_known : (many : ℕ) (v : View) (d : Doing) → IsRounded many d → KnowsDoing e o (rounded v d)
  rounded_known many v (Rounding k) i = tt
  rounded_known many v (JoinRound t bits k b) i = tt
  rounded_known many v (SplitFirst k b x) i = tt
  rounded_known many v (SplitSecond k x) i = tt
  rounded_known many v (Settling t k settle.AlignRound) i = λ h. absurd (true≢false (sym h))
  rounded_known many v _ i = absurd i

-- ---- notes

-- a note that goes leaves what is known of the others
gone : (J : List LaneEvent) (s : ClusterState) (old new : BTreeMap ℕ RowNote) (k : ℕ) → Updates nat_cmp old new k None → AreNotes J s old → AreNotes J s new
gone J s old new k u are number note h = by_test (is_eq (nat_cmp k number)) (sym (u.0 number) ∙ h)
  where
    by_test : (t : Bool) → cond t None (get nat_cmp old number) ≡ Some note → IsNoted J s number note
    by_test true e = cc
    by_test false e = are number note e

pub forgotten_notes : (J : List LaneEvent) (s : ClusterState) (bs : List Low) (old new : BTreeMap ℕ RowNote) → Forgets bs old new → AreNotes J s old → AreNotes J s new
forgotten_notes J s [] old new f are = subst (AreNotes J s) (sym f) are
forgotten_notes J s (b ∷ bs) old new f are = forgotten_notes J s bs f.0 new f.2 (gone J s old f.0 (number_of b) f.1 are)
