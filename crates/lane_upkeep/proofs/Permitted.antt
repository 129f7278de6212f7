-- What the machine allows is what the lane permits.
use Rattle.std.proofs.Common.{◌≡◌, ◌∙◌, ◌==◌, ◌&&◌, ◌||◌, not, ◌<◌, ◌≤◌, ◌*◌, ◌^◌, ◌%◌, ℕ, zero, suc, Bool, true, false, List, [], ◌∷◌, Option, Some, None, Contains, inl, inr, refl, sym, ap, ap₂, subst, arith, nat_le, nat_lt, slice_get, get_or, length, take, eqb-true, eq-eqb, if◌then◌else◌}
use Rattle.std.specs.Prelude.{IfSome}
use Rattle.std.specs.List.{find}
use Rattle.std.specs.BTreeMap.{BTreeMap, get}
use Rattle.std.specs.Ordering.{nat_cmp}
use Rattle.std.specs.Int.{bit_not, w32}
use Rattle.std.specs.Int.Bits.{bit_and, bit_or}
use Rattle.std.proofs.lemmas.Bool.Decides.{nat_tests}
use Rattle.std.proofs.lemmas.List.{get_or_default}
use Rattle.std.proofs.lemmas.List.Elements.{Contains-append_right}
use Rattle.std.proofs.lemmas.Option.{slice_get_within}
use mathlib.Core.Bool.{true≢false}
use Rattle.bucket_ids.specs.Buckets.{Low, IsBucket}
use Rattle.bucket_ids.specs.Printed.{number_of}
use Rattle.node_sets.specs.Members.{has_node, size_of}
use Rattle.node_sets.proofs.Bits.{has_and, has_or, has_and_not, has_one, has_none}
use Rattle.pieces.proofs.PieceLaws.{bucket-same}
use Rattle.cluster_states.specs.declared.cluster_state.ClusterState.{ClusterState}
use Rattle.cluster_states.specs.Publishing.{serves}
use Rattle.ideal_nodes.specs.Placement.{IsIdeal}
use Rattle.ideal_nodes.specs.Scores.{Has}
use Rattle.ideal_nodes.proofs.StateMarks.{ideal_once}
use Rattle.messages.specs.declared.body.Body.{Body}
use Rattle.messages.specs.declared.body.Body.TheVariants as body
use Rattle.messages.specs.declared.decision.Decision.{Decision}
use Rattle.messages.specs.declared.decision.Decision.TheVariants as decision
use Rattle.bucket_db.specs.Changes.{IsJoinable}
use Rattle.bucket_db.specs.Rows.{Rows, AreRows, buckets_of}
use Rattle.bucket_db.specs.declared.row.Row.{Row}
use Rattle.bucket_db.specs.declared.row.Deleting.{Deleting as Delete}
use Rattle.bucket_db.proofs.RowLists.{bucket_at, valid_at}
use Rattle.distributor_part.specs.Parts.{Part, rows_of, new_part}
use Rattle.distributor_part.specs.Targets.{AreTargets, IsTarget, IsToBeActive}
use Rattle.distributor_part.specs.Upkeep.{CanJoinAt}
use Rattle.lane_journals.specs.Readers.{answer, round_of}
use Rattle.lane_journals.specs.Facts.{AnsweredApply}
use Rattle.lane_journals.specs.Meanings.{history}
use Rattle.lane_rest.specs.Targets.{is_member, is_active, is_target_in}
use Rattle.proof_basics.proofs.Tests.{or_true, or_left, or_right}
use Rattle.pass_model.proofs.Counting.{has-member, member-has}
use Rattle.lane_keeping.specs.Flights.{NamesBucket}
use Rattle.row_keeping.specs.Deciding.{IsKeeper, IsDeleteOver}
use Rattle.row_keeping.specs.Telling.{IsOfRow}
use Rattle.row_keeping.proofs.Serving.{actives}
use Rattle.lane_states.specs.declared.lane_state.LaneState.{LaneState}
use Rattle.lane_states.specs.LaneStates.{journal_of, part_of}
use Rattle.pass_machine.proofs.Siblings.{to-sibling}
use Rattle.pass_machine.specs.declared.doing.Settle.TheVariants as settle
use Rattle.pass_machine.specs.declared.doing.Doing.{Doing}
use Rattle.pass_machine.specs.declared.doing.Doing.TheVariants.{ResendingDelete, ResentDelete, ResendingActivate, ResentActivate, Rounding, Joining, JoinTold, JoinRound, Splitting, SplitTold, SplitFirst, SplitSecond, Settling, Finished}
use Rattle.pass_machine.specs.declared.doing.UpkeepStep.{UpkeepStep}
use Rattle.pass_machine.specs.declared.doing.UpkeepStep.TheVariants as step
use Rattle.pass_machine.specs.declared.doing.Turn.TheVariants.{Says}
use Rattle.pass_machine.specs.declared.notes.Exact.{Exact}
use Rattle.pass_machine.specs.declared.notes.RowNote.{RowNote}
use Rattle.pass_machine.specs.Notes.{of_bucket, note_for, whole_in}
use Rattle.pass_machine.specs.Places.{can_join}
use Rattle.pass_machine.specs.Settling.{serial_of, serial_among}
use Rattle.pass_machine.specs.Turns.{View, Sees, turn_at}
use Rattle.pass_machine.specs.Allowed.{IsReady, IsAnswered, IsEnded, IsActivation, IsDeletion, IsSaidOf, IsSaid, Allows}
use Rattle.pass_machine.proofs.Allowing.{says_allowed, less}
use Rattle.pass_machine.proofs.Ideals.{is-to-be, asked_serves, be_serves}
use Rattle.pass_machine.proofs.Keepers.{enough_are}
use Rattle.lane_upkeep.specs.declared.owner.Owner.{Owner}
use Rattle.lane_upkeep.specs.Notes.{KnowsNote, ShowedExactly}
use Rattle.lane_upkeep.specs.Noted.{AreNotes}
use Rattle.lane_upkeep.specs.Passing.{Passes, MayTell, rows_in, HasRow}
use Rattle.lane_upkeep.specs.UnderWay.{view_in, AreIdeal, OfRow, IsReadied, IsRowAccepted, IsRowOver, HasBucket, KnowsDoing, NamesDeleted, IfTold, MayDecide, MayComeNext}
use Rattle.lane_upkeep.proofs.UnderWay.{DecidesAt, AcceptsRow, turn_known}

-- ---- tests

both-of : (a b : Bool) → (a && b) ≡ true → (a ≡ true) × (b ≡ true)
both-of true b h = (refl, h)
both-of false b h = absurd (true≢false (sym h))

not-true : (a : Bool) → not a ≡ true → a ≡ false
not-true true h = absurd (true≢false (sym h))
not-true false h = refl

none-with : (a b : Bool) → b ≡ false → (a && b) ≡ false
none-with true b h = h
none-with false b h = refl

some-same : {A : Type 0} (x y : A) → Some x ≡ Some y → x ≡ y
some-same x y e = cc

pub small_of : (set node : ℕ) → has_node set node ≡ true → node < 32
unfolding has_node
small_of set node h = less node 32 (both-of (nat_lt node 32) _ h).0

-- ---- sets of nodes, as numbers

unfoldable set_below : (ℕ → Bool) → ℕ → ℕ
set_below p zero = 0
set_below p (suc k) = if p k then bit_or (set_below p k) (1 * 2 ^ k % 2 ^ 32) else set_below p k

set-has : (p : ℕ → Bool) (k : ℕ) → k ≤ 32 → (n : ℕ) → has_node (set_below p k) n ≡ (nat_lt n k && p n)
unfolding set_below
set-has p zero h n = has_none n ∙ none n
  where
    none : (n : ℕ) → false ≡ (nat_lt n 0 && p n)
    none n = grind (arith, nat_tests)
set-has p (suc k) h n = by_test (p k) refl (set-has p k (omega (arith, h)) n)
  where
    one-more : (m : ℕ) (a b : Bool) → p k ≡ true → (m == k) ≡ a → p m ≡ b → ((nat_lt m k && b) || a) ≡ (nat_lt m (suc k) && b)
    one-more m true b e f g =
        let same : m ≡ k = eqb-true m k f in
        let is : b ≡ true = sym g ∙ (ap p same ∙ e) in
        let low : nat_lt m (suc k) ≡ true = grind (arith, nat_tests) in
        ap₂ (λ (x y : Bool). (nat_lt m k && x) || y) is refl ∙ (last (nat_lt m k) ∙ sym (ap₂ (λ (x y : Bool). x && y) low is))
      where
        last : (x : Bool) → ((x && true) || true) ≡ true
        last true = refl
        last false = refl
    one-more m false b e f g =
        let same : nat_lt m (suc k) ≡ nat_lt m k = grind (arith, nat_tests) in
        last (nat_lt m k && b) ∙ sym (ap (λ (x : Bool). x && b) same)
      where
        last : (x : Bool) → (x || false) ≡ x
        last true = refl
        last false = refl

    none-more : (a b : Bool) → p k ≡ false → (n == k) ≡ a → p n ≡ b → (nat_lt n k && b) ≡ (nat_lt n (suc k) && b)
    none-more true b e f g =
        let is : b ≡ false = sym g ∙ (ap p (eqb-true n k f) ∙ e) in
        none-with (nat_lt n k) b is ∙ sym (none-with (nat_lt n (suc k)) b is)
    none-more false b e f g =
        let same : nat_lt n (suc k) ≡ nat_lt n k = grind (arith, nat_tests) in
        sym (ap (λ (x : Bool). x && b) same)

    by_test : (t : Bool) → p k ≡ t → has_node (set_below p k) n ≡ (nat_lt n k && p n) → has_node (if t then bit_or (set_below p k) (1 * 2 ^ k % 2 ^ 32) else set_below p k) n ≡ (nat_lt n (suc k) && p n)
    by_test true e i = has_or (set_below p k) (1 * 2 ^ k % 2 ^ 32) n ∙ (ap₂ (λ (x y : Bool). x || y) i (has_one k n (omega (arith, h))) ∙ one-more n (n == k) (p n) e refl refl)
    by_test false e i = i ∙ none-more (n == k) (p n) e refl refl

-- the nodes below 32 that pass a test
abbrev set_by : (ℕ → Bool) → ℕ
set_by p = set_below p 32

set-by : (p : ℕ → Bool) (n : ℕ) → has_node (set_by p) n ≡ (nat_lt n 32 && p n)
set-by p n = set-has p 32 (omega arith) n

-- ---- what the machine reads

-- the part that is read is the owner's
pub part_read : (c : LaneState) (o : Owner) (i : ℕ) (p : Part) → i ≡ o.distributor → i < length c.parts.items → p ≡ get_or c.parts.items i p → p ≡ part_of c o.distributor
part_read c o i p at within read =
    subst (λ (n : ℕ). p ≡ get_or c.parts.items n p) at read
    ∙ get_or_default c.parts.items o.distributor p (new_part o.distributor c.lane c.rules None) (subst (λ (n : ℕ). n < length c.parts.items) at within)

pub sees_view : (c : LaneState) (o : Owner) (ideal : Low → List ℕ) → Passes c o → AreIdeal o ideal → Sees (part_of c o.distributor) (view_in ideal c o)
sees_view c o ideal p are = record {
  heard = ((p.1).opened).heard;
  rules = (((p.1).keeps.keeps).parts_are o.distributor).rules_are;
  lane = (((p.1).keeps.keeps).parts_are o.distributor).lane_is;
  rows = refl;
  ideal = are;
}

pub row_bucket : (lane : Low) (rows : List Row) (at : ℕ) (row : Row) → AreRows lane (buckets_of rows) → slice_get rows at ≡ Some row → IsBucket row.bucket
row_bucket lane rows at row whole found = valid_at (buckets_of rows) at row.bucket whole.valid (bucket_at rows at row found)

-- the rows are those of the part's lane
pub rows_of_part : (c : LaneState) (o : Owner) → Passes c o → AreRows c.lane (buckets_of (rows_in c o)) → AreRows (part_of c o.distributor).lane (buckets_of (rows_in c o))
rows_of_part c o p whole = subst (λ (l : Low). AreRows l (buckets_of (rows_in c o))) (sym (((p.1).keeps.keeps).parts_are o.distributor).lane_is) whole

-- ---- notes

note-of-bucket : (b : Low) (x : Option RowNote) (note : RowNote) → of_bucket b x ≡ Some note → (x ≡ Some note) × (note.bucket ≡ b)
note-of-bucket b None note h = cc
note-of-bucket b (Some other) note h = by_test ((other.bucket).bits == b.bits && (other.bucket).low == b.low) refl h
  where
    by_test : (t : Bool) → ((other.bucket).bits == b.bits && (other.bucket).low == b.low) ≡ t → (if t then Some other else None) ≡ Some note → (Some other ≡ Some note) × (note.bucket ≡ b)
    by_test true e f = (f, subst (λ (x : RowNote). x.bucket ≡ b) (some-same other note f) (bucket-same other.bucket b e))
    by_test false e f = cc

whole-is : (x : Option RowNote) (note : RowNote) → whole_in x ≡ Some note → x ≡ Some note
whole-is None note h = cc
whole-is (Some other) note h = by_test other.whole h
  where
    by_test : (t : Bool) → (if t then Some other else None) ≡ Some note → Some other ≡ Some note
    by_test true e = e
    by_test false e = cc

among-contains : (xs : List Exact) (n serial : ℕ) → serial_among xs n ≡ Some serial → Contains xs (record { node = n; serial = serial })
among-contains [] n serial h = let no : ◌≡◌ {A = Option ℕ} None (Some serial) = h in absurd (cc)
among-contains (x ∷ xs) n serial h = by_test (x.node == n) refl h (among-contains xs n serial)
  where
    by_test : (t : Bool) → (x.node == n) ≡ t → serial_of (if t then Some x else find (λ (y : Exact). y.node == n) xs) ≡ Some serial
        → (serial_among xs n ≡ Some serial → Contains xs (record { node = n; serial = serial })) → Contains (x ∷ xs) (record { node = n; serial = serial })
    by_test true e f further =
        let node : x.node ≡ n = eqb-true x.node n e in
        let same : x.serial ≡ serial = some-same x.serial serial f in
        (0, omega arith, λ i. record { node = node i; serial = same i })
    by_test false e f further = Contains-append_right (x ∷ []) xs (record { node = n; serial = serial }) (further f)

-- ---- the targets of a row

module _ (b : Low) (state : ClusterState) (ideal : List ℕ) (is_ideal : IsIdeal b state ideal) (active : Option ℕ) (on : (n : ℕ) → active ≡ Some n → serves state n ≡ true) (few : (n : ℕ) → serves state n ≡ true → n < 32) (redundancy : ℕ) where
  active-is : (a : Option ℕ) (n : ℕ) → is_active a n ≡ true → a ≡ Some n
  active-is None n h = absurd (true≢false (sym h))
  active-is (Some m) n h = ap (λ (k : ℕ). Some k) (eqb-true m n h)

  target-serves : (n : ℕ) → is_target_in redundancy ideal active n ≡ true → serves state n ≡ true
  target-serves n h = elim (or_true (is_member (take redundancy ideal) n) (is_active active n) h) [
    | inl first ↦ asked_serves b state ideal is_ideal 0 active on redundancy n (or_left (is_member (take redundancy ideal) n) _ first)
    | inr act ↦ on n (active-is active n act)
  ]

  listed : (n : ℕ) → IsTarget redundancy state b active n → is_target_in redundancy ideal active n ≡ true
  listed n (inl x) =
      let same : x.ideal ≡ ideal = ideal_once b state x.ideal ideal x.is_ideal is_ideal in
      or_left (is_member (take redundancy ideal) n) (is_active active n) (has-member (take redundancy ideal) n (subst (λ (ns : List ℕ). Has n (take redundancy ns)) same x.among))
  listed n (inr is) = or_right (is_member (take redundancy ideal) n) (is_active active n) (ap (λ (a : Option ℕ). is_active a n) is ∙ eq-eqb n n refl)

  unlisted : (n : ℕ) → is_target_in redundancy ideal active n ≡ true → IsTarget redundancy state b active n
  unlisted n h = elim (or_true (is_member (take redundancy ideal) n) (is_active active n) h) [
    | inl first ↦ inl (record { ideal = ideal; is_ideal = is_ideal; among = member-has (take redundancy ideal) n first })
    | inr act ↦ inr (active-is active n act)
  ]

  abbrev targets : ℕ
  targets = set_by (is_target_in redundancy ideal active)

  are-targets : AreTargets redundancy state b active targets
  are-targets n = (
    λ h. unlisted n (both-of (nat_lt n 32) (is_target_in redundancy ideal active n) (sym (set-by (is_target_in redundancy ideal active) n) ∙ h)).1,
    λ t. (let is = listed n t in
        set-by (is_target_in redundancy ideal active) n ∙ ap₂ (λ (x y : Bool). x && y) (below n (few n (target-serves n is))) is),
  )
    where
      below : (n : ℕ) → n < 32 → nat_lt n 32 ≡ true
      below n h = grind (arith, nat_tests)

-- ---- what may come next

module _ (c : LaneState) (o : Owner) (ideal : Low → List ℕ) (p : Passes c o) (are : AreIdeal o ideal) (whole : AreRows c.lane (buckets_of (rows_in c o)))
    (of_lane : IfSome (part_of c o.distributor).rows (λ d. d.lane ≡ c.lane)) (few : (n : ℕ) → serves o.state n ≡ true → n < 32) where
  abbrev v : View
  v = view_in ideal c o

  -- ---- messages

  of-row : (row : Row) (n : ℕ) (b : Body) → IsSaidOf row n b → IsOfRow row n b
  of-row row n body.Ask h = absurd h
  of-row row n (body.Read b only) h = absurd h
  of-row row n (body.Store e) h = absurd h
  of-row row n (body.Apply b es) h = absurd h
  of-row row n (body.Delete b s) h = h
  of-row row n (body.Split b) h = h
  of-row row n (body.Join b) h = h
  of-row row n (body.Ready b) h = h
  of-row row n (body.Activate b) h = h

  -- the bucket is that of a row, or of a Delete
  names : (row : Row) (n : ℕ) (b : Body) → IsBucket row.bucket → NamesDeleted b → IsSaidOf row n b → NamesBucket b
  names row n body.Ask ok del h = absurd h
  names row n (body.Read b only) ok del h = absurd h
  names row n (body.Store e) ok del h = absurd h
  names row n (body.Apply b es) ok del h = absurd h
  names row n (body.Delete b s) ok del h = del
  names row n (body.Split b) ok del h = subst IsBucket (sym h) ok
  names row n (body.Join b) ok del h = subst IsBucket (sym h) ok
  names row n (body.Ready b) ok del h = subst IsBucket (sym h) ok
  names row n (body.Activate b) ok del h = subst IsBucket (sym h.0) ok

  of-one : (n : ℕ) (b : Body) → serves o.state n ≡ true → NamesDeleted b → ((at : ℕ) × (row : Row) × (slice_get v.rows at ≡ Some row) × IsSaidOf row n b) → MayTell c o n b
  of-one n b serve del (at, row, found, said) = record {
    at = at;
    row = row;
    found = found;
    serving = serve;
    valid = names row n b (row_bucket c.lane (rows_in c o) at row whole found) del said;
    of_row = of-row row n b said;
  }

  joined-one : (n : ℕ) (q : Low) → HasBucket c o q → (at : ℕ) × (row : Row) × (slice_get v.rows at ≡ Some row) × IsSaidOf row n (body.Join q)
  joined-one n q (at, row, found, same) = (at, row, found, sym same)

  split-one : (n : ℕ) (q : Low) → HasBucket c o q → (at : ℕ) × (row : Row) × (slice_get v.rows at ≡ Some row) × IsSaidOf row n (body.Split q)
  split-one n q (at, row, found, same) = (at, row, found, sym same)

  may-tell : (d : Doing) (n : ℕ) (b : Body) → KnowsDoing c o d → serves o.state n ≡ true → NamesDeleted b → IsSaid v d n b → MayTell c o n b
  may-tell (JoinTold t bits at q m) n b k s del said =
      of-one n b s del (subst (λ (x : Body). (at : ℕ) × (row : Row) × (slice_get v.rows at ≡ Some row) × IsSaidOf row n x) (sym said) (joined-one n q k))
  may-tell (SplitTold at first second m) n b k s del said =
      of-one n b s del (subst (λ (x : Body). (at : ℕ) × (row : Row) × (slice_get v.rows at ≡ Some row) × IsSaidOf row n x) (sym said) (split-one n first k))
  may-tell (ResendingDelete at) n b k s del said = of-one n b s del said
  may-tell (ResentDelete at) n b k s del said = of-one n b s del said
  may-tell (ResendingActivate at) n b k s del said = of-one n b s del said
  may-tell (ResentActivate at taken) n b k s del said = of-one n b s del said
  may-tell (Rounding at) n b k s del said = of-one n b s del said
  may-tell (Joining t bits at) n b k s del said = of-one n b s del said
  may-tell (JoinRound t bits at q) n b k s del said = of-one n b s del said
  may-tell (Splitting at) n b k s del said = of-one n b s del said
  may-tell (SplitFirst at first second) n b k s del said = of-one n b s del said
  may-tell (SplitSecond at second) n b k s del said = of-one n b s del said
  may-tell (Settling t at next) n b k s del said = of-one n b s del said
  may-tell Finished n b k s del said = of-one n b s del said

  -- ---- decisions

  readied : (d : Doing) (at : ℕ) (x : Decision) → DecidesAt d at x → KnowsDoing c o d → IsReady d → OfRow c o at (IsReadied c o)
  readied (Settling t j (settle.Deciding ready)) at x is k h = subst (λ (i : ℕ). OfRow c o i (IsReadied c o)) (sym is.0) (k h)
  readied _ at x is k h = absurd h

  ended : (d : Doing) (at : ℕ) (x : Decision) → DecidesAt d at x → KnowsDoing c o d → IsEnded d → OfRow c o at (IsRowOver c o)
  ended (Settling t j (settle.DeleteOver n)) at x is k h = subst (λ (i : ℕ). OfRow c o i (IsRowOver c o)) (sym is.0) k
  ended (ResentDelete j) at x is k h = subst (λ (i : ℕ). OfRow c o i (IsRowOver c o)) (sym is.0) k
  ended _ at x is k h = absurd h

  accepted : (d : Doing) (at : ℕ) → AcceptsRow d at → KnowsDoing c o d → IsAnswered d → OfRow c o at (IsRowAccepted c o)
  accepted (Settling t j (settle.Accepting answered)) at is k h = subst (λ (i : ℕ). OfRow c o i (IsRowAccepted c o)) (sym is) (k h)
  accepted (ResentActivate j answered) at is k h = subst (λ (i : ℕ). OfRow c o i (IsRowAccepted c o)) (sym is) (k h)
  accepted _ at is k h = absurd h

  can-join : (at : ℕ) (row : Row) → HasRow c o at row → can_join v.lane v.rows row ≡ true → CanJoinAt (part_of c o.distributor) at
  can-join at row found h =
      let rows = (p.1).rows in
      let opened = ((p.1).opened).opened in
      let same : rows_in c o ≡ rows.rows = ap rows_of opened in
      let lane : rows.lane ≡ c.lane = subst (λ (x : Option Rows). IfSome x (λ d. d.lane ≡ c.lane)) opened of_lane in
      let j = to-sibling c.lane (rows_in c o) row h in
      let k : IsJoinable rows.lane rows.rows row j.0 = subst (λ (l : Low). IsJoinable l rows.rows row j.0) (sym lane) (subst (λ (l : List Row). IsJoinable c.lane l row j.0) same j.1) in
      let here : slice_get rows.rows at ≡ Some row = ap (λ (l : List Row). slice_get l at) (sym same) ∙ found in
      record { rows = rows; opened = opened; can = subst (λ (x : Option Row). IfSome x (λ r. (other : Row) × IsJoinable rows.lane rows.rows r other)) (sym here) (j.0, k) }

  actives-serve : (at : ℕ) (row : Row) → HasRow c o at row → (n : ℕ) → row.active ≡ Some n → serves o.state n ≡ true
  actives-serve at row found n is =
      actives c.lane c.rules (journal_of c) c.newest c.last c.nodes.items c.parts.items ((p.1).keeps).keeps o.distributor o.state (p.1).acting (p.1).rows ((p.1).opened).opened at row n
      (sym (ap (λ (x : Option Rows). slice_get (rows_of x) at) ((p.1).opened).opened) ∙ found) is

  activates : (d : Doing) (at : ℕ) (row : Row) (b : Low) (n : ℕ) → HasRow c o at row → OfRow c o at (IsReadied c o) → IsActivation v row d b n → MayDecide c o at (decision.ActiveOn b n)
  activates d at row b n found ready h =
      let to_be : IsToBeActive o.state row.bucket row.complete row.active n = is-to-be row.bucket o.state row.complete (ideal row.bucket) (are row.bucket) row.active n h.to_be_active in
      let on : serves o.state n ≡ true = be_serves row.bucket o.state (ideal row.bucket) (are row.bucket) row.complete row.active (actives-serve at row found) n h.to_be_active in
      (row, found, sym h.bucket, few n on, record { undecided = h.undecided; to_be_active = to_be; ready = ready row found n to_be })

  -- those that keep the row's copy but the node
  abbrev keepers : (row : Row) (note : RowNote) (node : ℕ) → ℕ
  keepers row note node = bit_and (bit_and row.complete note.holders) (bit_not w32 (1 * 2 ^ node % 2 ^ 32))

  keepers-are : (row : Row) (note : RowNote) (node : ℕ) → node < 32 → (n : ℕ) → has_node (keepers row note node) n ≡ ((has_node row.complete n && has_node note.holders n) && not (n == node))
  keepers-are row note node small n =
      has_and_not (bit_and row.complete note.holders) (1 * 2 ^ node % 2 ^ 32) n (omega arith)
      ∙ ap₂ (λ (x y : Bool). x && not y) (has_and row.complete note.holders n) (has_one node n small)

  keeper : (node : ℕ) (row : Row) (note : RowNote) → note.bucket ≡ row.bucket → KnowsNote (journal_of c) o.state note → (n : ℕ)
      → ((has_node row.complete n && has_node note.holders n) && not (n == node)) ≡ true → IsKeeper (history (journal_of c)) o.state row node n
  keeper node row note same k n h =
      let x = both-of (has_node row.complete n && has_node note.holders n) (not (n == node)) h in
      let y = both-of (has_node row.complete n) (has_node note.holders n) x.0 in
      record {
        other = λ e. true≢false (sym (eq-eqb n node e) ∙ not-true (n == node) x.1);
        complete = y.0;
        answered = subst (λ (b : Low). AnsweredApply (o.state).version (round_of (o.state).version b (history (journal_of c))) n b (history (journal_of c))) same (k.holders_are n y.1);
      }

  deletes : (notes : BTreeMap ℕ RowNote) (at : ℕ) (row : Row) (b : Low) (n serial : ℕ) → AreNotes (journal_of c) o.state notes → HasRow c o at row → IsDeletion v notes row b n serial → MayDecide c o at (decision.DeleteFrom b n serial)
  deletes notes at row b n serial known found h =
      let note : RowNote = h.note in
      let of = note-of-bucket row.bucket (get nat_cmp notes (number_of row.bucket)) note (whole-is (note_for row.bucket notes) note h.noted) in
      let k : KnowsNote (journal_of c) o.state note = (known (number_of row.bucket) note of.0).knows in
      let x : ShowedExactly (journal_of c) o.state note (record { node = n; serial = serial }) = k.exact_are (record { node = n; serial = serial }) (among-contains note.exact.items n serial h.shown) in
      let is : is_target_in (c.rules).redundancy (ideal row.bucket) row.active n ≡ false = h.no_target in
      let held : nat_le (c.rules).acks (size_of (keepers row note n)) ≡ true = enough_are (c.rules).acks (keepers row note n) row note n (keepers-are row note n h.small) ∙ h.enough in (
        row,
        found,
        sym h.bucket,
        h.small,
        record {
          none = h.none;
          targets = targets row.bucket o.state (ideal row.bucket) (are row.bucket) row.active (actives-serve at row found) few (c.rules).redundancy;
          are_targets = are-targets row.bucket o.state (ideal row.bucket) (are row.bucket) row.active (actives-serve at row found) few (c.rules).redundancy;
          no_target = set-by (is_target_in (c.rules).redundancy (ideal row.bucket) row.active) n ∙ none-with (nat_lt n 32) (is_target_in (c.rules).redundancy (ideal row.bucket) row.active n) is;
          given = x.given;
          shown = subst (λ (y : Low). answer (o.state).version (round_of (o.state).version y (history (journal_of c))) n (history (journal_of c)) ≡ Some x.given) of.1 x.shown;
          exact = subst (λ (y : Low). (x.given).names y serial ≡ true) of.1 x.names;
          keepers = keepers row note n;
          enough = at-most (c.rules).acks (size_of (keepers row note n)) held;
          are_keepers = λ m g. keeper n row note of.1 k m (sym (keepers-are row note n h.small m) ∙ g);
        },
      )
    where
      at-most : (a b : ℕ) → nat_le a b ≡ true → a ≤ b
      at-most a b g = grind (arith, nat_tests)

  is-over : (at : ℕ) (row : Row) (delete : Delete) → HasRow c o at row → OfRow c o at (IsRowOver c o) → row.deleting ≡ Some delete → IsDeleteOver (history (journal_of c)) o.state delete
  is-over at row delete found over is = subst (λ (x : Option Delete). IfSome x (λ d. IsDeleteOver (history (journal_of c)) o.state d)) is (over row found)

  may-decide : (d : Doing) (notes : BTreeMap ℕ RowNote) (at : ℕ) (x : Decision) → AreNotes (journal_of c) o.state notes → KnowsDoing c o d → DecidesAt d at x → (row : Row) → HasRow c o at row → Allows v notes row d x → MayDecide c o at x
  may-decide d notes at (decision.RowSplit b) known k is row found h = (row, found, sym h.bucket, h.fewer)
  may-decide d notes at (decision.RowsJoined b) known k is row found h = (row, found, sym h.parent, can-join at row found h.can)
  may-decide d notes at (decision.ActiveOn b n) known k is row found h = activates d at row b n found (readied d at (decision.ActiveOn b n) is k h.ready) h
  may-decide d notes at (decision.DeleteFrom b n serial) known k is row found h = deletes notes at row b n serial known found h
  may-decide d notes at (decision.DeleteOver b n) known k is row found h =
      (h.delete, h.bucket, h.node, (at, row, found, h.deleting), is-over at row h.delete found (ended d at (decision.DeleteOver b n) is k h.ended) h.deleting)
  may-decide d notes at _ known k is row found h = absurd h

  -- ---- steps

  module _ (made : BTreeMap ℕ (Unit {0})) (notes : BTreeMap ℕ RowNote) (known : AreNotes (journal_of c) o.state notes) (d : Doing) (k : KnowsDoing c o d) where
    pub may_come : (x : UpkeepStep) → turn_at v made notes d ≡ Says x → IfTold x (λ node b. NamesDeleted b) → MayComeNext c o x
    may_come (step.Tell n b) h del = let a = says_allowed v notes made d (step.Tell n b) h in may-tell d n b k a.0 del a.1
    may_come (step.Decide at x) h del =
        let a = says_allowed v notes made d (step.Decide at x) h in
        may-decide d notes at x known k (turn_known ideal c o made notes d (Says (step.Decide at x)) k h) a.0 a.1 a.2
    may_come (step.Accept at) h del =
        let a = says_allowed v notes made d (step.Accept at) h in
        (slice_get_within (rows_in c o) at a.0 a.1, accepted d at (turn_known ideal c o made notes d (Says (step.Accept at)) k h) k a.2)
    may_come (step.Round at) h del = let a = says_allowed v notes made d (step.Round at) h in slice_get_within (rows_in c o) at a.0 a.1
    may_come step.Finished h del = tt
