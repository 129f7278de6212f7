-- Each step is of a row and allowed by it.
use Rattle.std.proofs.Common.{◌≡◌, ◌==◌, ◌&&◌, not, ◌<◌, ◌+◌, ℕ, Bool, true, false, Option, Some, None, refl, sym, subst, arith, nat_lt, length, slice_get, eqb-true, if◌then◌else◌}
use Rattle.std.specs.Prelude.{is_some}
use Rattle.std.specs.BTreeMap.{BTreeMap}
use Rattle.std.proofs.lemmas.Bool.Decides.{nat_tests}
use mathlib.Core.Bool.{true≢false}
use Rattle.bucket_ids.specs.Buckets.{parent_of}
use Rattle.node_sets.specs.Members.{has_node}
use Rattle.cluster_states.specs.Publishing.{serves}
use Rattle.messages.specs.declared.body.Body.{Body}
use Rattle.messages.specs.declared.body.Body.TheVariants as body
use Rattle.messages.specs.declared.decision.Decision.TheVariants as decision
use Rattle.bucket_db.specs.declared.row.Row.{Row}
use Rattle.bucket_db.specs.declared.row.Deleting.{Deleting as Delete}
use Rattle.pass_machine.specs.declared.doing.Time.{Time}
use Rattle.pass_machine.specs.declared.doing.Time.TheVariants.{First}
use Rattle.pass_machine.specs.declared.doing.Settle.{Settle}
use Rattle.pass_machine.specs.declared.doing.Settle.TheVariants as settle
use Rattle.pass_machine.specs.declared.doing.Doing.{Doing}
use Rattle.pass_machine.specs.declared.doing.Doing.TheVariants.{ResendingDelete, ResentDelete, ResendingActivate, ResentActivate, Rounding, Joining, JoinTold, JoinRound, Splitting, SplitTold, SplitFirst, SplitSecond, Settling, Finished}
use Rattle.pass_machine.specs.declared.doing.UpkeepStep.{UpkeepStep}
use Rattle.pass_machine.specs.declared.doing.UpkeepStep.TheVariants as step
use Rattle.pass_machine.specs.declared.doing.Turn.{Turn}
use Rattle.pass_machine.specs.declared.doing.Turn.TheVariants.{Over, Says}
use Rattle.pass_machine.specs.declared.notes.RowNote.{RowNote}
use Rattle.pass_machine.specs.Notes.{note_for, whole_in, documents_in}
use Rattle.pass_machine.specs.Places.{place_of, next_place, can_join, are_small, is_first_half, is_full_by, was_sent}
use Rattle.pass_machine.specs.Settling as row
use Rattle.pass_machine.specs.Settling.{alignment_in, tell_or, activate_or, tell_active, delete_or, tell_delete, end_delete, unanswered, next_node, serial_to_lose, serial_among, are_enough}
use Rattle.pass_machine.specs.Turns.{View, is_asked, is_target, to_be_active, settle_turn, by_note, by_row, resend_delete, resending_delete, resent_delete, resending_activate, resent_activate, round_or, begin_joins, fewer_bits, does_join, joining, tell_all, splitting, turn_at}
use Rattle.pass_machine.specs.Allowed.{IsAllowed, IsAllowedTurn, IsSaid}
use Rattle.proof_basics.proofs.Options.{if-some}

pub less : (m n : ℕ) → nat_lt m n ≡ true → m < n
less m n h = grind (arith, nat_tests)

both-of : (a b : Bool) → (a && b) ≡ true → (a ≡ true) × (b ≡ true)
both-of true b h = (refl, h)
both-of false b h = absurd (true≢false (sym h))

not-true : (a : Bool) → not a ≡ true → a ≡ false
not-true true h = absurd (true≢false (sym h))
not-true false h = refl

none-of : {A : Type 0} (x : Option A) → is_some x ≡ false → x ≡ None
none-of None h = refl
none-of (Some a) h = absurd (true≢false h)

pub if-none : {A : Type 0} (t : Bool) (x : Option A) (a : A) → (if t then None else x) ≡ Some a → (t ≡ false) × (x ≡ Some a)
if-none true x a h = cc
if-none false x a h = (refl, h)

module _ (v : View) (notes : BTreeMap ℕ RowNote) where
  abbrev Turns : Doing → Turn → Type 0
  Turns d x = IsAllowedTurn v notes d x

  -- ---- a row that is settled

  module _ (t : Time) (at : ℕ) (r : Row) (note : RowNote) (found : slice_get v.rows at ≡ Some r) (noted : whole_in (note_for r.bucket notes) ≡ Some note) where
    abbrev It : Settle → Turn → Type 0
    It next x = Turns (Settling t at next) x

    aligns : (n : ℕ) (any : Bool) → It (settle.Aligning n any) (row.aligning t at r.bucket note (serves v.state n) n any)
    aligns n any = by_test (nat_lt n 32)
      where
        of-note : (a b c : Bool) → serves v.state n ≡ true → It (settle.Aligning n any) (tell_or n (if a then None else (if b then Some (body.Split r.bucket) else (if c then Some (body.Join r.bucket) else None))) (Settling t at (settle.Aligning (n + 1) any)))
        of-note true b c h = tt
        of-note false true c h = (h, (at, r, found, refl))
        of-note false false true h = (h, (at, r, found, refl))
        of-note false false false h = tt

        by_serves : (x : Bool) → serves v.state n ≡ x → It (settle.Aligning n any) (tell_or n (if x then alignment_in r.bucket note n else None) (Settling t at (settle.Aligning (n + 1) any)))
        by_serves true h = of-note (has_node note.holders n) (has_node note.over n) (has_node note.inside n) h
        by_serves false h = tt

        by_test : (x : Bool) → It (settle.Aligning n any) (if x then tell_or n (if serves v.state n then alignment_in r.bucket note n else None) (Settling t at (settle.Aligning (n + 1) any)) else Over (row.aligned t at any))
        by_test true = by_serves (serves v.state n) refl
        by_test false = tt

    readies : (n : ℕ) (ready : Bool) → It (settle.Readying n ready) (row.readying t at r.bucket (is_asked v r n) n ready)
    readies n ready = by_test (nat_lt n 32)
      where
        by_asked : (x : Bool) → is_asked v r n ≡ x → It (settle.Readying n ready) (if x then Says (step.Tell n (body.Ready r.bucket)) else Over (Settling t at (settle.Readying (n + 1) ready)))
        by_asked true h = ((both-of (serves v.state n) _ h).0, (at, r, found, refl))
        by_asked false h = tt

        by_test : (x : Bool) → It (settle.Readying n ready) (if x then (if is_asked v r n then Says (step.Tell n (body.Ready r.bucket)) else Over (Settling t at (settle.Readying (n + 1) ready))) else Over (Settling t at (settle.Deciding ready)))
        by_test true = by_asked (is_asked v r n) refl
        by_test false = tt

    decides : (ready : Bool) → It (settle.Deciding ready) (row.deciding t at r (to_be_active v r) ready)
    decides ready = by_node (if ready && not (is_some r.active) then to_be_active v r else None) refl
      where
        by_node : (x : Option ℕ) → (if ready && not (is_some r.active) then to_be_active v r else None) ≡ x → It (settle.Deciding ready) (activate_or at r.bucket x (Settling t at settle.Activating))
        by_node None h = tt
        by_node (Some n) h =
            let x = if-some (ready && not (is_some r.active)) (to_be_active v r) n h in
            let y = both-of ready (not (is_some r.active)) x.0 in
            (r, found, record { bucket = refl; undecided = none-of r.active (not-true (is_some r.active) y.1); to_be_active = x.1; ready = y.0 })

    deletes : (n : ℕ) → It (settle.Deleting n) (row.deleting t at r.bucket (if nat_lt n 32 then serial_to_lose r note (is_target v r n) (v.rules).acks n else None) n)
    deletes n = by_serial (if nat_lt n 32 then serial_to_lose r note (is_target v r n) (v.rules).acks n else None) refl
      where
        by_serial : (x : Option ℕ) → (if nat_lt n 32 then serial_to_lose r note (is_target v r n) (v.rules).acks n else None) ≡ x → It (settle.Deleting n) (delete_or at r.bucket n x (next_node t at n))
        by_serial None h = tt
        by_serial (Some k) h =
            let x = if-some (nat_lt n 32) (serial_to_lose r note (is_target v r n) (v.rules).acks n) k h in
            let y = if-none (is_some r.deleting) (if not (is_target v r n) && are_enough (v.rules).acks r note n then serial_among note.exact.items n else None) k x.1 in
            let z = if-some (not (is_target v r n) && are_enough (v.rules).acks r note n) (serial_among note.exact.items n) k y.1 in
            let u = both-of (not (is_target v r n)) (are_enough (v.rules).acks r note n) z.0 in
            (r, found, record { bucket = refl; small = less n 32 x.0; none = none-of r.deleting y.0; no_target = not-true (is_target v r n) u.0; note = note; noted = noted; shown = z.1; enough = u.1 })

    activates : It settle.Activating (row.activating t at r (serves v.state))
    activates = by_node r.active refl
      where
        by_node : (x : Option ℕ) → r.active ≡ x → It settle.Activating (tell_active r.bucket r.accepted x (serves v.state) (Settling t at (settle.Deleting 0)))
        by_node None h = tt
        by_node (Some n) h = by_test (not r.accepted && serves v.state n) refl
          where
            by_test : (x : Bool) → (not r.accepted && serves v.state n) ≡ x → It settle.Activating (if x then Says (step.Tell n (body.Activate r.bucket)) else Over (Settling t at (settle.Deleting 0)))
            by_test true e = ((both-of (not r.accepted) (serves v.state n) e).1, (at, r, found, (refl, h)))
            by_test false e = tt

    accepts : (answered : Bool) → It (settle.Accepting answered) (row.accepting t at answered)
    accepts true = (r, found, refl)
    accepts false = tt

    tells : (n : ℕ) → It (settle.DeleteTold n) (row.delete_told t at r (serves v.state) n)
    tells n = by_delete (unanswered r n) refl
      where
        by_delete : (x : Option Delete) → unanswered r n ≡ x → It (settle.DeleteTold n) (tell_delete x (serves v.state) (next_node t at n))
        by_delete None h = tt
        by_delete (Some d) h = by_test (serves v.state d.node) refl
          where
            by_test : (x : Bool) → serves v.state d.node ≡ x → It (settle.DeleteTold n) (if x then Says (step.Tell d.node (body.Delete d.bucket d.serial)) else Over (next_node t at n))
            by_test true e = (e, (at, r, found, (if-some (nat_lt n 32) r.deleting d h).1))
            by_test false e = tt

    ends : (n : ℕ) → It (settle.DeleteOver n) (row.delete_over t at r n)
    ends n = by_delete (unanswered r n) refl
      where
        by_delete : (x : Option Delete) → unanswered r n ≡ x → It (settle.DeleteOver n) (end_delete at x (next_node t at n))
        by_delete None h = tt
        by_delete (Some d) h = (r, found, record { delete = d; deleting = (if-some (nat_lt n 32) r.deleting d h).1; bucket = refl; node = refl; ended = tt })

    settles : (made : BTreeMap ℕ (Unit {0})) (next : Settle) → It next (settle_turn v made t at r note next)
    settles made settle.Beginning = tt
    settles made (settle.Aligning n any) = aligns n any
    settles made settle.AlignRound = (r, found)
    settles made (settle.Readying n ready) = readies n ready
    settles made (settle.Deciding ready) = decides ready
    settles made settle.Activating = activates
    settles made (settle.Accepting answered) = accepts answered
    settles made (settle.Deleting n) = deletes n
    settles made (settle.DeleteTold n) = tells n
    settles made (settle.DeleteOver n) = ends n

  -- ---- wherever it stands

  resends : (at : ℕ) (x : Option Row) → slice_get v.rows at ≡ x → Turns (ResendingDelete at) (resending_delete v at x)
  resends at None e = tt
  resends at (Some r) e = by_delete r.deleting refl
    where
      by_delete : (x : Option Delete) → r.deleting ≡ x → Turns (ResendingDelete at) (resend_delete v at x)
      by_delete None h = tt
      by_delete (Some d) h = by_test (not (was_sent v.rows at d) && serves v.state d.node) refl
        where
          by_test : (x : Bool) → (not (was_sent v.rows at d) && serves v.state d.node) ≡ x → Turns (ResendingDelete at) (if x then Says (step.Tell d.node (body.Delete d.bucket d.serial)) else Over (ResendingDelete (at + 1)))
          by_test true f = ((both-of (not (was_sent v.rows at d)) (serves v.state d.node) f).1, (at, r, e, h))
          by_test false f = tt

  resent : (at : ℕ) (x : Option Row) → slice_get v.rows at ≡ x → Turns (ResentDelete at) (resent_delete v at x)
  resent at None e = tt
  resent at (Some r) e = by_delete r.deleting refl
    where
      by_delete : (x : Option Delete) → r.deleting ≡ x → Turns (ResentDelete at) (end_delete at x (ResendingDelete (at + 1)))
      by_delete None h = tt
      by_delete (Some d) h = (r, e, record { delete = d; deleting = h; bucket = refl; node = refl; ended = tt })

  reactivates : (at : ℕ) (x : Option Row) → slice_get v.rows at ≡ x → Turns (ResendingActivate at) (resending_activate v at x)
  reactivates at None e = tt
  reactivates at (Some r) e = by_node r.active refl
    where
      by_node : (x : Option ℕ) → r.active ≡ x → Turns (ResendingActivate at) (tell_active r.bucket r.accepted x (serves v.state) (ResendingActivate (at + 1)))
      by_node None h = tt
      by_node (Some n) h = by_test (not r.accepted && serves v.state n) refl
        where
          by_test : (x : Bool) → (not r.accepted && serves v.state n) ≡ x → Turns (ResendingActivate at) (if x then Says (step.Tell n (body.Activate r.bucket)) else Over (ResendingActivate (at + 1)))
          by_test true f = ((both-of (not r.accepted) (serves v.state n) f).1, (at, r, e, (refl, h)))
          by_test false f = tt

  reaccepts : (at : ℕ) (taken : Bool) (x : Option Row) → slice_get v.rows at ≡ x → Turns (ResentActivate at taken) (resent_activate at taken x)
  reaccepts at taken None e = tt
  reaccepts at true (Some r) e = (r, e, refl)
  reaccepts at false (Some r) e = tt

  rounds : (d : Doing) (at : ℕ) (next : Doing) (x : Option Row) → slice_get v.rows at ≡ x → Turns d (round_or at x next)
  rounds d at next None e = tt
  rounds d at next (Some r) e = (r, e)

  joins : (t : Time) (bits at : ℕ) (x : Option Row) → slice_get v.rows at ≡ x → Turns (Joining t bits at) (joining v notes t bits at x)
  joins t bits at None e = tt
  joins t bits at (Some r) e = by_bits (nat_lt bits r.bucket.bits)
    where
      by_test : (x : Bool) → does_join v notes bits r ≡ x → Turns (Joining t bits at) (if x then Says (step.Decide at (decision.RowsJoined (parent_of r.bucket))) else Over (Joining t bits (at + 1)))
      by_test true h =
          let x = both-of (r.bucket.bits == bits && nat_lt 1 bits) (is_first_half r.bucket && (can_join v.lane v.rows r && are_small notes r.bucket (v.rules).split_at)) h in
          let y = both-of (r.bucket.bits == bits) (nat_lt 1 bits) x.0 in
          let z = both-of (is_first_half r.bucket) (can_join v.lane v.rows r && are_small notes r.bucket (v.rules).split_at) x.1 in
          let u = both-of (can_join v.lane v.rows r) (are_small notes r.bucket (v.rules).split_at) z.1 in
          (r, e, record { parent = refl; some = subst (λ (k : ℕ). 1 < k) (sym (eqb-true r.bucket.bits bits y.0)) (less 1 bits y.1); can = u.0; small = u.1 })
      by_test false h = tt

      by_bits : (x : Bool) → Turns (Joining t bits at) (if x then Over (fewer_bits v t bits) else (if does_join v notes bits r then Says (step.Decide at (decision.RowsJoined (parent_of r.bucket))) else Over (Joining t bits (at + 1))))
      by_bits true = tt
      by_bits false = by_test (does_join v notes bits r) refl

  tells-all : (d : Doing) (n : ℕ) (b : Body) (next last : Doing) → IsSaid v d n b → Turns d (tell_all v n b next last)
  tells-all d n b next last said = by_test (nat_lt n 32)
    where
      by_serves : (x : Bool) → serves v.state n ≡ x → Turns d (if x then Says (step.Tell n b) else Over next)
      by_serves true h = (h, said)
      by_serves false h = tt

      by_test : (x : Bool) → Turns d (if x then (if serves v.state n then Says (step.Tell n b) else Over next) else Over last)
      by_test true = by_serves (serves v.state n) refl
      by_test false = tt

  splits : (at : ℕ) (x : Option Row) → slice_get v.rows at ≡ x → Turns (Splitting at) (splitting v notes at x)
  splits at None e = tt
  splits at (Some r) e = by_documents (documents_in (note_for r.bucket notes))
    where
      by_full : (k : ℕ) (x : Bool) → (nat_lt r.bucket.bits 58 && nat_lt (v.rules).split_at k) ≡ x → Turns (Splitting at) (if x then Says (step.Decide at (decision.RowSplit r.bucket)) else Over (Splitting (at + 1)))
      by_full k true h = (r, e, record { bucket = refl; fewer = less r.bucket.bits 58 (both-of (nat_lt r.bucket.bits 58) (nat_lt (v.rules).split_at k) h).0 })
      by_full k false h = tt

      by_documents : (x : Option ℕ) → Turns (Splitting at) (if is_full_by (v.rules).split_at r.bucket.bits x then Says (step.Decide at (decision.RowSplit r.bucket)) else Over (Splitting (at + 1)))
      by_documents None = tt
      by_documents (Some k) = by_full k (nat_lt r.bucket.bits 58 && nat_lt (v.rules).split_at k) refl

  settles-at : (made : BTreeMap ℕ (Unit {0})) (t : Time) (at : ℕ) (next : Settle) (x : Option Row) → slice_get v.rows at ≡ x → Turns (Settling t at next) (by_row v made notes t at x next)
  settles-at made t at next None e = tt
  settles-at made t at next (Some r) e = by_whole (whole_in (note_for r.bucket notes)) refl
    where
      by_whole : (x : Option RowNote) → whole_in (note_for r.bucket notes) ≡ x → Turns (Settling t at next) (by_note v made t at r x next)
      by_whole None h = tt
      by_whole (Some note) h = settles t at r note e h made next

  turn-allowed : (made : BTreeMap ℕ (Unit {0})) (d : Doing) → Turns d (turn_at v made notes d)
  turn-allowed made (ResendingDelete at) = resends at (slice_get v.rows at) refl
  turn-allowed made (ResentDelete at) = resent at (slice_get v.rows at) refl
  turn-allowed made (ResendingActivate at) = reactivates at (slice_get v.rows at) refl
  turn-allowed made (ResentActivate at taken) = reaccepts at taken (slice_get v.rows at) refl
  turn-allowed made (Rounding at) = rounds (Rounding at) at (begin_joins v First) (slice_get v.rows at) refl
  turn-allowed made (Joining t bits at) = joins t bits at (slice_get v.rows at) refl
  turn-allowed made (JoinTold t bits at p n) = tells-all (JoinTold t bits at p n) n (body.Join p) (JoinTold t bits at p (n + 1)) (JoinRound t bits at p) refl
  turn-allowed made (JoinRound t bits at p) = rounds (JoinRound t bits at p) (place_of p v.rows) (Joining t bits (next_place (length v.rows) at)) (slice_get v.rows (place_of p v.rows)) refl
  turn-allowed made (Splitting at) = splits at (slice_get v.rows at) refl
  turn-allowed made (SplitTold at b c n) = tells-all (SplitTold at b c n) n (body.Split b) (SplitTold at b c (n + 1)) (SplitFirst at b c) refl
  turn-allowed made (SplitFirst at b c) = rounds (SplitFirst at b c) (place_of b v.rows) (SplitSecond at c) (slice_get v.rows (place_of b v.rows)) refl
  turn-allowed made (SplitSecond at c) = rounds (SplitSecond at c) (place_of c v.rows) (Splitting at) (slice_get v.rows (place_of c v.rows)) refl
  turn-allowed made (Settling t at next) = settles-at made t at next (slice_get v.rows at) refl
  turn-allowed made Finished = tt

  pub says_allowed : (made : BTreeMap ℕ (Unit {0})) (d : Doing) (x : UpkeepStep) → turn_at v made notes d ≡ Says x → IsAllowed v notes d x
  says_allowed made d x h = subst (λ (y : Turn). IsAllowedTurn v notes d y) h (turn-allowed made d)
