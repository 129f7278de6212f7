-- What the machine knows while it goes over places, and of which row its steps are.
use Rattle.std.proofs.Common.{◌≡◌, ◌&&◌, not, ◌+◌, ℕ, Bool, true, false, List, Option, Some, None, refl, sym, subst, nat_le, nat_lt, length, slice_get, if◌then◌else◌}
use Rattle.std.specs.Prelude.{is_some, ◌-◌}
use Rattle.std.specs.BTreeMap.{BTreeMap}
use mathlib.Core.Bool.{true≢false}
use Rattle.bucket_ids.specs.Buckets.{Low, parent_of}
use Rattle.cluster_states.specs.Publishing.{serves}
use Rattle.messages.specs.declared.body.Body.{Body}
use Rattle.messages.specs.declared.body.Body.TheVariants as body
use Rattle.messages.specs.declared.decision.Decision.{Decision}
use Rattle.messages.specs.declared.decision.Decision.TheVariants as decision
use Rattle.bucket_db.specs.declared.row.Row.{Row}
use Rattle.bucket_db.specs.declared.row.Deleting.{Deleting as Delete}
use Rattle.lane_states.specs.declared.lane_state.LaneState.{LaneState}
use Rattle.pass_machine.specs.declared.doing.Time.{Time}
use Rattle.pass_machine.specs.declared.doing.Time.TheVariants.{First, Again}
use Rattle.pass_machine.specs.declared.doing.Settle.{Settle}
use Rattle.pass_machine.specs.declared.doing.Settle.TheVariants as settle
use Rattle.pass_machine.specs.declared.doing.Doing.{Doing}
use Rattle.pass_machine.specs.declared.doing.Doing.TheVariants.{ResendingDelete, ResentDelete, ResendingActivate, ResentActivate, Rounding, Joining, JoinTold, JoinRound, Splitting, SplitTold, SplitFirst, SplitSecond, Settling, Finished}
use Rattle.pass_machine.specs.declared.doing.UpkeepStep.TheVariants as step
use Rattle.pass_machine.specs.declared.doing.Turn.{Turn}
use Rattle.pass_machine.specs.declared.doing.Turn.TheVariants.{Over, Says}
use Rattle.pass_machine.specs.declared.notes.RowNote.{RowNote}
use Rattle.pass_machine.specs.Notes.{note_for, whole_in, documents_in}
use Rattle.pass_machine.specs.Places.{first_with, place_of, next_place, is_full_by, was_sent}
use Rattle.pass_machine.specs.Settling as row
use Rattle.pass_machine.specs.Settling.{next_row, alignment_in, tell_or, activate_or, tell_active, delete_or, tell_delete, end_delete, unanswered, next_node, serial_to_lose}
use Rattle.pass_machine.specs.Turns.{View, is_due, beginning, is_asked, is_target, to_be_active, settle_turn, by_note, by_row, resend_delete, resending_delete, resent_delete, resending_activate, resent_activate, round_or, begin_joins, end_joins, end_settling, fewer_bits, does_join, joining, tell_all, splitting, turn_at}
use Rattle.pass_machine.specs.Going.{GoesOver, Stays, Goes}
use Rattle.proof_basics.proofs.Options.{if-some}
use Rattle.lane_upkeep.specs.declared.owner.Owner.{Owner}
use Rattle.lane_upkeep.specs.Passing.{HasRow}
use Rattle.lane_upkeep.specs.UnderWay.{KnowsDoing, view_in}

-- ---- of which row a step is

-- the unanswered Delete of the row of a place
abbrev pub IsDeleteAt : LaneState → Owner → ℕ → ℕ → Body → Type 0
IsDeleteAt c o at n b = (r : Row) × HasRow c o at r × (d : Delete) × (r.deleting ≡ Some d) × (n ≡ d.node) × (b ≡ body.Delete d.bucket d.serial)

-- Activate to the active node of the row
abbrev pub IsActivateAt : LaneState → Owner → ℕ → ℕ → Body → Type 0
IsActivateAt c o at n b = (r : Row) × HasRow c o at r × (r.active ≡ Some n) × (b ≡ body.Activate r.bucket)

-- Ready of the row to this node
abbrev pub IsReadyAt : LaneState → Owner → ℕ → ℕ → ℕ → Body → Type 0
IsReadyAt c o at m n b = (r : Row) × HasRow c o at r × (n ≡ m) × (b ≡ body.Ready r.bucket)

abbrev pub TellsOf : LaneState → Owner → Doing → ℕ → Body → Type 0
TellsOf c o (ResendingDelete at) n b = IsDeleteAt c o at n b
TellsOf c o (ResendingActivate at) n b = IsActivateAt c o at n b
TellsOf c o (Settling t at (settle.Readying m ready)) n b = IsReadyAt c o at m n b
TellsOf c o (Settling t at settle.Activating) n b = IsActivateAt c o at n b
TellsOf c o (Settling t at (settle.DeleteTold m)) n b = IsDeleteAt c o at n b
TellsOf c o _ n b = Unit {0}

-- it neither splits nor joins rows
abbrev pub KeepsRows : Decision → Type 0
KeepsRows (decision.RowSplit b) = ⊥
KeepsRows (decision.RowsJoined b) = ⊥
KeepsRows _ = Unit {0}

abbrev pub DecidesAt : Doing → ℕ → Decision → Type 0
DecidesAt (ResentDelete k) at x = (at ≡ k) × KeepsRows x
DecidesAt (Settling t k next) at x = (at ≡ k) × KeepsRows x
DecidesAt (Joining t bits k) at x = at ≡ k
DecidesAt (Splitting k) at x = at ≡ k
DecidesAt _ at x = Unit {0}

abbrev pub AcceptsRow : Doing → ℕ → Type 0
AcceptsRow (ResentActivate k taken) at = at ≡ k
AcceptsRow (Settling t k next) at = at ≡ k
AcceptsRow _ at = Unit {0}

-- what is known of where the machine goes over to, and of which row its step is
abbrev pub IsKnownTurn : LaneState → Owner → Doing → Turn → Type 0
IsKnownTurn c o d (Over e) = KnowsDoing c o e
IsKnownTurn c o d (Says (step.Tell n b)) = TellsOf c o d n b
IsKnownTurn c o d (Says (step.Decide at x)) = DecidesAt d at x
IsKnownTurn c o d (Says (step.Accept at)) = AcceptsRow d at
IsKnownTurn c o d (Says _) = Unit {0}

module _ (ideal : Low → List ℕ) (c : LaneState) (o : Owner) (made : BTreeMap ℕ (Unit {0})) (notes : BTreeMap ℕ RowNote) where
  abbrev v : View
  v = view_in ideal c o

  abbrev Turns : Doing → Turn → Type 0
  Turns d x = IsKnownTurn c o d x

  -- ---- a row that is settled

  module _ (t : Time) (at : ℕ) (r : Row) (note : RowNote) (found : HasRow c o at r) where
    abbrev It : Settle → Turn → Type 0
    It next x = Turns (Settling t at next) x

    next-known : (n : ℕ) → KnowsDoing c o (next_node t at n)
    next-known n = by_test (nat_lt n 32)
      where
        by_test : (x : Bool) → KnowsDoing c o (if x then Settling t at (settle.Deleting (n + 1)) else next_row t at)
        by_test true = tt
        by_test false = tt

    begins : It settle.Beginning (Over (beginning made t at r.bucket))
    begins = by_test (is_due made t r.bucket)
      where
        by_test : (x : Bool) → KnowsDoing c o (if x then Settling t at (settle.Aligning 0 false) else next_row t at)
        by_test true = tt
        by_test false = tt

    aligns : (n : ℕ) (any : Bool) → It (settle.Aligning n any) (row.aligning t at r.bucket note (serves o.state n) n any)
    aligns n any = by_test (nat_lt n 32)
      where
        by_body : (x : Option Body) → It (settle.Aligning n any) (tell_or n x (Settling t at (settle.Aligning (n + 1) any)))
        by_body None = tt
        by_body (Some b) = tt

        by_any : (x : Bool) → KnowsDoing c o (row.aligned t at x)
        by_any true = tt
        by_any false = λ e. absurd (true≢false (sym e))

        by_test : (x : Bool) → It (settle.Aligning n any) (if x then tell_or n (if serves o.state n then alignment_in r.bucket note n else None) (Settling t at (settle.Aligning (n + 1) any)) else Over (row.aligned t at any))
        by_test true = by_body (if serves o.state n then alignment_in r.bucket note n else None)
        by_test false = by_any any

    readies : (n : ℕ) (ready : Bool) → KnowsDoing c o (Settling t at (settle.Readying n ready)) → It (settle.Readying n ready) (row.readying t at r.bucket (is_asked v r n) n ready)
    readies n ready k = by_test (nat_lt n 32)
      where
        by_asked : (x : Bool) → It (settle.Readying n ready) (if x then Says (step.Tell n (body.Ready r.bucket)) else Over (Settling t at (settle.Readying (n + 1) ready)))
        by_asked true = (r, found, refl, refl)
        by_asked false = k

        by_test : (x : Bool) → It (settle.Readying n ready) (if x then (if is_asked v r n then Says (step.Tell n (body.Ready r.bucket)) else Over (Settling t at (settle.Readying (n + 1) ready))) else Over (Settling t at (settle.Deciding ready)))
        by_test true = by_asked (is_asked v r n)
        by_test false = k

    decides : (ready : Bool) → It (settle.Deciding ready) (row.deciding t at r (to_be_active v r) ready)
    decides ready = by_node (if ready && not (is_some r.active) then to_be_active v r else None)
      where
        by_node : (x : Option ℕ) → It (settle.Deciding ready) (activate_or at r.bucket x (Settling t at settle.Activating))
        by_node None = tt
        by_node (Some n) = (refl, tt)

    activates : It settle.Activating (row.activating t at r (serves o.state))
    activates = by_node r.active refl
      where
        by_node : (x : Option ℕ) → r.active ≡ x → It settle.Activating (tell_active r.bucket r.accepted x (serves o.state) (Settling t at (settle.Deleting 0)))
        by_node None h = tt
        by_node (Some n) h = by_test (not r.accepted && serves o.state n)
          where
            by_test : (x : Bool) → It settle.Activating (if x then Says (step.Tell n (body.Activate r.bucket)) else Over (Settling t at (settle.Deleting 0)))
            by_test true = (r, found, h, refl)
            by_test false = tt

    accepts : (answered : Bool) → It (settle.Accepting answered) (row.accepting t at answered)
    accepts true = refl
    accepts false = tt

    deletes : (n : ℕ) → It (settle.Deleting n) (row.deleting t at r.bucket (if nat_lt n 32 then serial_to_lose r note (is_target v r n) (v.rules).acks n else None) n)
    deletes n = by_serial (if nat_lt n 32 then serial_to_lose r note (is_target v r n) (v.rules).acks n else None)
      where
        by_serial : (x : Option ℕ) → It (settle.Deleting n) (delete_or at r.bucket n x (next_node t at n))
        by_serial None = next-known n
        by_serial (Some serial) = (refl, tt)

    tells : (n : ℕ) → It (settle.DeleteTold n) (row.delete_told t at r (serves o.state) n)
    tells n = by_delete (unanswered r n) refl
      where
        by_delete : (x : Option Delete) → unanswered r n ≡ x → It (settle.DeleteTold n) (tell_delete x (serves o.state) (next_node t at n))
        by_delete None h = next-known n
        by_delete (Some d) h = by_test (serves o.state d.node)
          where
            by_test : (x : Bool) → It (settle.DeleteTold n) (if x then Says (step.Tell d.node (body.Delete d.bucket d.serial)) else Over (next_node t at n))
            by_test true = (r, found, d, (if-some (nat_lt n 32) r.deleting d h).1, refl, refl)
            by_test false = next-known n

    ends : (n : ℕ) → It (settle.DeleteOver n) (row.delete_over t at r n)
    ends n = by_delete (unanswered r n)
      where
        by_delete : (x : Option Delete) → It (settle.DeleteOver n) (end_delete at x (next_node t at n))
        by_delete None = next-known n
        by_delete (Some d) = (refl, tt)

    settles : (next : Settle) → KnowsDoing c o (Settling t at next) → It next (settle_turn v made t at r note next)
    settles settle.Beginning k = begins
    settles (settle.Aligning n any) k = aligns n any
    settles settle.AlignRound k = tt
    settles (settle.Readying n ready) k = readies n ready k
    settles (settle.Deciding ready) k = decides ready
    settles settle.Activating k = activates
    settles (settle.Accepting answered) k = accepts answered
    settles (settle.Deleting n) k = deletes n
    settles (settle.DeleteTold n) k = tells n
    settles (settle.DeleteOver n) k = ends n

  -- ---- wherever it stands

  resends : (at : ℕ) (x : Option Row) → slice_get v.rows at ≡ x → Turns (ResendingDelete at) (resending_delete v at x)
  resends at None e = tt
  resends at (Some r) e = by_delete r.deleting refl
    where
      by_delete : (x : Option Delete) → r.deleting ≡ x → Turns (ResendingDelete at) (resend_delete v at x)
      by_delete None h = tt
      by_delete (Some d) h = by_test (not (was_sent v.rows at d) && serves o.state d.node)
        where
          by_test : (x : Bool) → Turns (ResendingDelete at) (if x then Says (step.Tell d.node (body.Delete d.bucket d.serial)) else Over (ResendingDelete (at + 1)))
          by_test true = (r, e, d, h, refl, refl)
          by_test false = tt

  resent : (at : ℕ) (x : Option Row) → Turns (ResentDelete at) (resent_delete v at x)
  resent at None = tt
  resent at (Some r) = by_delete r.deleting
    where
      by_delete : (x : Option Delete) → Turns (ResentDelete at) (end_delete at x (ResendingDelete (at + 1)))
      by_delete None = tt
      by_delete (Some d) = (refl, tt)

  reactivates : (at : ℕ) (x : Option Row) → slice_get v.rows at ≡ x → Turns (ResendingActivate at) (resending_activate v at x)
  reactivates at None e = tt
  reactivates at (Some r) e = by_node r.active refl
    where
      by_node : (x : Option ℕ) → r.active ≡ x → Turns (ResendingActivate at) (tell_active r.bucket r.accepted x (serves o.state) (ResendingActivate (at + 1)))
      by_node None h = tt
      by_node (Some n) h = by_test (not r.accepted && serves o.state n)
        where
          by_test : (x : Bool) → Turns (ResendingActivate at) (if x then Says (step.Tell n (body.Activate r.bucket)) else Over (ResendingActivate (at + 1)))
          by_test true = (r, e, h, refl)
          by_test false = tt

  reaccepts : (at : ℕ) (taken : Bool) (x : Option Row) → Turns (ResentActivate at taken) (resent_activate at taken x)
  reaccepts at taken None = tt
  reaccepts at true (Some r) = refl
  reaccepts at false (Some r) = tt

  rounds : (d : Doing) (at : ℕ) (next : Doing) → KnowsDoing c o next → (x : Option Row) → Turns d (round_or at x next)
  rounds d at next k None = k
  rounds d at next k (Some r) = tt

  fewer : (t : Time) (bits : ℕ) → KnowsDoing c o (fewer_bits v t bits)
  fewer t bits = by_test (nat_le bits 2)
    where
      by_time : (t : Time) → KnowsDoing c o (end_joins t)
      by_time First = tt
      by_time Again = tt

      by_test : (x : Bool) → KnowsDoing c o (if x then end_joins t else Joining t (bits - 1) (first_with (bits - 1) v.rows))
      by_test true = by_time t
      by_test false = tt

  joins : (t : Time) (bits at : ℕ) (x : Option Row) → Turns (Joining t bits at) (joining v notes t bits at x)
  joins t bits at None = fewer t bits
  joins t bits at (Some r) = by_bits (nat_lt bits r.bucket.bits)
    where
      by_test : (x : Bool) → Turns (Joining t bits at) (if x then Says (step.Decide at (decision.RowsJoined (parent_of r.bucket))) else Over (Joining t bits (at + 1)))
      by_test true = refl
      by_test false = tt

      by_bits : (x : Bool) → Turns (Joining t bits at) (if x then Over (fewer_bits v t bits) else (if does_join v notes bits r then Says (step.Decide at (decision.RowsJoined (parent_of r.bucket))) else Over (Joining t bits (at + 1))))
      by_bits true = fewer t bits
      by_bits false = by_test (does_join v notes bits r)

  tells-all : (d : Doing) (n : ℕ) (b : Body) (next last : Doing) → TellsOf c o d n b → KnowsDoing c o next → KnowsDoing c o last → Turns d (tell_all v n b next last)
  tells-all d n b next last of k l = by_test (nat_lt n 32)
    where
      by_serves : (x : Bool) → Turns d (if x then Says (step.Tell n b) else Over next)
      by_serves true = of
      by_serves false = k

      by_test : (x : Bool) → Turns d (if x then (if serves o.state n then Says (step.Tell n b) else Over next) else Over last)
      by_test true = by_serves (serves o.state n)
      by_test false = l

  splits : (at : ℕ) (x : Option Row) → Turns (Splitting at) (splitting v notes at x)
  splits at None = tt
  splits at (Some r) = by_full (is_full_by (v.rules).split_at r.bucket.bits (documents_in (note_for r.bucket notes)))
    where
      by_full : (x : Bool) → Turns (Splitting at) (if x then Says (step.Decide at (decision.RowSplit r.bucket)) else Over (Splitting (at + 1)))
      by_full true = refl
      by_full false = tt

  settles-at : (t : Time) (at : ℕ) (next : Settle) → KnowsDoing c o (Settling t at next) → (x : Option Row) → slice_get v.rows at ≡ x → Turns (Settling t at next) (by_row v made notes t at x next)
  settles-at t at next k None e = by_time t
    where
      by_time : (t : Time) → KnowsDoing c o (end_settling v t)
      by_time First = tt
      by_time Again = tt
  settles-at t at next k (Some r) e = by_whole (whole_in (note_for r.bucket notes))
    where
      by_whole : (x : Option RowNote) → Turns (Settling t at next) (by_note v made t at r x next)
      by_whole None = tt
      by_whole (Some note) = settles t at r note e next k

  turns : (d : Doing) → KnowsDoing c o d → Turns d (turn_at v made notes d)
  turns (ResendingDelete at) k = resends at (slice_get v.rows at) refl
  turns (ResentDelete at) k = resent at (slice_get v.rows at)
  turns (ResendingActivate at) k = reactivates at (slice_get v.rows at) refl
  turns (ResentActivate at taken) k = reaccepts at taken (slice_get v.rows at)
  turns (Rounding at) k = rounds (Rounding at) at (begin_joins v First) tt (slice_get v.rows at)
  turns (Joining t bits at) k = joins t bits at (slice_get v.rows at)
  turns (JoinTold t bits at p n) k = tells-all (JoinTold t bits at p n) n (body.Join p) (JoinTold t bits at p (n + 1)) (JoinRound t bits at p) tt k tt
  turns (JoinRound t bits at p) k = rounds (JoinRound t bits at p) (place_of p v.rows) (Joining t bits (next_place (length v.rows) at)) tt (slice_get v.rows (place_of p v.rows))
  turns (Splitting at) k = splits at (slice_get v.rows at)
  turns (SplitTold at b e n) k = tells-all (SplitTold at b e n) n (body.Split b) (SplitTold at b e (n + 1)) (SplitFirst at b e) tt k tt
  turns (SplitFirst at b e) k = rounds (SplitFirst at b e) (place_of b v.rows) (SplitSecond at e) tt (slice_get v.rows (place_of b v.rows))
  turns (SplitSecond at e) k = rounds (SplitSecond at e) (place_of e v.rows) (Splitting at) tt (slice_get v.rows (place_of e v.rows))
  turns (Settling t at next) k = settles-at t at next k (slice_get v.rows at) refl
  turns Finished k = tt

  pub turn_known : (d : Doing) (x : Turn) → KnowsDoing c o d → turn_at v made notes d ≡ x → IsKnownTurn c o d x
  turn_known d x k h = subst (λ (y : Turn). IsKnownTurn c o d y) h (turns d k)

  -- what it knew is known where it stands now
  pub goes_known : (d e : Doing) → GoesOver v made notes d e → KnowsDoing c o d → KnowsDoing c o e
  goes_known d e (Stays _) k = k
  goes_known d e (Goes _ f _ h rest) k = goes_known f e rest (turn_known d (Over f) k h)
