-- Each turn leads nearer to the end, or waits for what its step comes to.
use Rattle.std.proofs.Common.{◌≡◌, ◌&&◌, not, ◌<◌, ◌≤◌, ℕ, ◌+◌, ◌-◌, ◌*◌, Bool, true, false, length, nat_le, Option, Some, None, refl, subst, arith, nat_lt, slice_get, if◌then◌else◌}
use Rattle.std.specs.Prelude.{is_some}
use Rattle.std.specs.BTreeMap.{BTreeMap}
use Rattle.std.proofs.lemmas.Bool.Decides.{nat_tests}
use Rattle.std.proofs.lemmas.Option.{slice_get_within}
use Rattle.bucket_ids.specs.Buckets.{Low, parent_of}
use Rattle.messages.specs.declared.body.Body.{Body}
use Rattle.messages.specs.declared.body.Body.TheVariants as body
use Rattle.messages.specs.declared.decision.Decision.TheVariants as decision
use Rattle.cluster_states.specs.Publishing.{serves}
use Rattle.bucket_db.specs.declared.row.Row.{Row}
use Rattle.bucket_db.specs.declared.row.Deleting.{Deleting as Delete}
use Rattle.pass_machine.specs.declared.doing.Time.{Time}
use Rattle.pass_machine.specs.declared.doing.Time.TheVariants.{First, Again}
use Rattle.pass_machine.specs.declared.doing.Settle.{Settle}
use Rattle.pass_machine.specs.declared.doing.Settle.TheVariants as settle
use Rattle.pass_machine.specs.declared.doing.Doing.{Doing}
use Rattle.pass_machine.specs.declared.doing.Doing.TheVariants.{ResendingDelete, ResentDelete, ResendingActivate, ResentActivate, Rounding, Joining, JoinTold, JoinRound, Splitting, SplitTold, SplitFirst, SplitSecond, Settling, Finished}
use Rattle.pass_machine.specs.declared.doing.UpkeepStep.{UpkeepStep}
use Rattle.pass_machine.specs.declared.doing.UpkeepStep.TheVariants as step
use Rattle.pass_machine.specs.declared.doing.Turn.{Turn}
use Rattle.pass_machine.specs.declared.doing.Turn.TheVariants.{Over, Says}
use Rattle.pass_machine.specs.declared.notes.RowNote.{RowNote}
use Rattle.pass_machine.specs.Notes.{note_for, whole_in, documents_in}
use Rattle.pass_machine.specs.Places.{first_with, place_of, next_place, is_full_by, was_sent}
use Rattle.pass_machine.proofs.Numbers.{lower, further, next_join, level_lower, join_lower, join_over, joined_first, joined_again, begins_again, begins_first, begins_settling, begins_rounds, begins_activates, next_resend, resend_over, next_split}
use Rattle.pass_machine.specs.Settling as row
use Rattle.pass_machine.specs.Settling.{next_row, next_node, alignment_in, tell_or, activate_or, tell_active, delete_or, unanswered, tell_delete, end_delete, serial_to_lose}
use Rattle.pass_machine.specs.Turns.{View, is_due, is_asked, is_target, to_be_active, beginning, settle_turn, by_note, by_row, resend_delete, resending_delete, resent_delete, resending_activate, resent_activate, round_or, begin_joins, end_joins, fewer_bits, does_join, joining, tell_all, splitting, turn_at}
use Rattle.pass_machine.specs.Going.{steps_left, behind_joins, behind_settling, left, Awaits, GoesOver, Stays, Goes}

-- the machine goes over to what is nearer to the end, or awaits what the step comes to
abbrev pub GoesOn : ℕ → ℕ → Doing → Turn → Type 0
GoesOn most many d (Over e) = left most many e < left most many d
GoesOn most many d (Says x) = Awaits many x d

-- ---- numbers

less : (m n : ℕ) → nat_lt m n ≡ true → m < n
less m n h = grind (arith, nat_tests)

one-less : (c n : ℕ) → n < 32 → c + (32 - (n + 1)) < c + (32 - n)
one-less c n h = omega (arith, h)

three-less : (n : ℕ) → n < 32 → 3 * (32 - (n + 1)) + 1 < 3 * (32 - n) - 1
three-less n h = omega (arith, h)

three-lower : (n : ℕ) → n < 32 → 3 * (32 - (n + 1)) + 1 < 3 * (32 - n)
three-lower n h = omega (arith, h)

three-least : (n : ℕ) → n < 32 → 3 * (32 - (n + 1)) + 1 < 3 * (32 - n) + 1
three-least n h = omega (arith, h)

-- ---- a row that is settled

module _ (most many : ℕ) (t : Time) (at : ℕ) (within : at < many) where
  abbrev at-step : Settle → Doing
  at-step next = Settling t at next

  next-row-goes : (from : Settle) → GoesOn most many (at-step from) (Over (next_row t at))
  next-row-goes from = further (behind_settling t * (most + 2)) many at (steps_left from) within

  nearer : (from to : Settle) → steps_left to < steps_left from → GoesOn most many (at-step from) (Over (at-step to))
  nearer from to h = lower (behind_settling t * (most + 2)) ((many - at) * 171) (steps_left to) (steps_left from) h

  beginning-goes : (made : BTreeMap ℕ (Unit {0})) (b : Low) → GoesOn most many (at-step settle.Beginning) (Over (beginning made t at b))
  beginning-goes made b = by_due (is_due made t b)
    where
      by_due : (x : Bool) → GoesOn most many (at-step settle.Beginning) (Over (if x then at-step (settle.Aligning 0 false) else next_row t at))
      by_due true = nearer settle.Beginning (settle.Aligning 0 false) (omega arith)
      by_due false = next-row-goes settle.Beginning

  aligning-goes : (b : Low) (note : RowNote) (serving : Bool) (n : ℕ) (any : Bool) → GoesOn most many (at-step (settle.Aligning n any)) (row.aligning t at b note serving n any)
  aligning-goes b note serving n any = by_test (nat_lt n 32) refl
    where
      told : n < 32 → (x : Option Body) → GoesOn most many (at-step (settle.Aligning n any)) (tell_or n x (at-step (settle.Aligning (n + 1) any)))
      told h None = nearer (settle.Aligning n any) (settle.Aligning (n + 1) any) (one-less 135 n h)
      told h (Some x) = h

      over : (x : Bool) → GoesOn most many (at-step (settle.Aligning n any)) (Over (row.aligned t at x))
      over true = nearer (settle.Aligning n any) settle.AlignRound (omega arith)
      over false = nearer (settle.Aligning n any) (settle.Readying 0 false) (omega arith)

      by_test : (x : Bool) → nat_lt n 32 ≡ x → GoesOn most many (at-step (settle.Aligning n any)) (if x then tell_or n (if serving then alignment_in b note n else None) (at-step (settle.Aligning (n + 1) any)) else Over (row.aligned t at any))
      by_test true e = told (less n 32 e) (if serving then alignment_in b note n else None)
      by_test false e = over any

  readying-goes : (b : Low) (asked : Bool) (n : ℕ) (ready : Bool) → GoesOn most many (at-step (settle.Readying n ready)) (row.readying t at b asked n ready)
  readying-goes b asked n ready = by_test (nat_lt n 32) refl
    where
      told : n < 32 → (x : Bool) → GoesOn most many (at-step (settle.Readying n ready)) (if x then Says (step.Tell n (body.Ready b)) else Over (at-step (settle.Readying (n + 1) ready)))
      told h true = h
      told h false = nearer (settle.Readying n ready) (settle.Readying (n + 1) ready) (one-less 101 n h)

      by_test : (x : Bool) → nat_lt n 32 ≡ x → GoesOn most many (at-step (settle.Readying n ready)) (if x then (if asked then Says (step.Tell n (body.Ready b)) else Over (at-step (settle.Readying (n + 1) ready))) else Over (at-step (settle.Deciding ready)))
      by_test true e = told (less n 32 e) asked
      by_test false e = nearer (settle.Readying n ready) (settle.Deciding ready) (omega arith)

  deciding-goes : (r : Row) (to_be : Option ℕ) (ready : Bool) → GoesOn most many (at-step (settle.Deciding ready)) (row.deciding t at r to_be ready)
  deciding-goes r to_be ready = by_node (if ready && not (is_some r.active) then to_be else None)
    where
      by_node : (x : Option ℕ) → GoesOn most many (at-step (settle.Deciding ready)) (activate_or at r.bucket x (at-step settle.Activating))
      by_node None = nearer (settle.Deciding ready) settle.Activating (omega arith)
      by_node (Some n) = tt

  activating-goes : (r : Row) (serving : ℕ → Bool) → GoesOn most many (at-step settle.Activating) (row.activating t at r serving)
  activating-goes r serving = by_node r.active
    where
      by_node : (x : Option ℕ) → GoesOn most many (at-step settle.Activating) (tell_active r.bucket r.accepted x serving (at-step (settle.Deleting 0)))
      by_node None = nearer settle.Activating (settle.Deleting 0) (omega arith)
      by_node (Some n) = by_test (not r.accepted && serving n)
        where
          by_test : (x : Bool) → GoesOn most many (at-step settle.Activating) (if x then Says (step.Tell n (body.Activate r.bucket)) else Over (at-step (settle.Deleting 0)))
          by_test true = tt
          by_test false = nearer settle.Activating (settle.Deleting 0) (omega arith)

  accepting-goes : (answered : Bool) → GoesOn most many (at-step (settle.Accepting answered)) (row.accepting t at answered)
  accepting-goes true = tt
  accepting-goes false = nearer (settle.Accepting false) (settle.Deleting 0) (omega arith)

  -- behind the Delete of a node
  node-goes : (from : Settle) (n : ℕ) → (n < 32 → steps_left (settle.Deleting (n + 1)) < steps_left from) → GoesOn most many (at-step from) (Over (next_node t at n))
  node-goes from n h = by_test (nat_lt n 32) refl
    where
      by_test : (x : Bool) → nat_lt n 32 ≡ x → GoesOn most many (at-step from) (Over (if x then at-step (settle.Deleting (n + 1)) else next_row t at))
      by_test true e = nearer from (settle.Deleting (n + 1)) (h (less n 32 e))
      by_test false e = next-row-goes from

  deleting-goes : (b : Low) (serial : Option ℕ) (n : ℕ) → GoesOn most many (at-step (settle.Deleting n)) (row.deleting t at b (if nat_lt n 32 then serial else None) n)
  deleting-goes b serial n = by_test (nat_lt n 32) refl
    where
      over : GoesOn most many (at-step (settle.Deleting n)) (Over (next_node t at n))
      over = node-goes (settle.Deleting n) n (three-least n)

      found : n < 32 → (x : Option ℕ) → GoesOn most many (at-step (settle.Deleting n)) (delete_or at b n x (next_node t at n))
      found h None = over
      found h (Some x) = h

      by_test : (x : Bool) → nat_lt n 32 ≡ x → GoesOn most many (at-step (settle.Deleting n)) (delete_or at b n (if x then serial else None) (next_node t at n))
      by_test true e = found (less n 32 e) serial
      by_test false e = over

  -- what is unanswered is of a node
  told-goes : (r : Row) (serving : ℕ → Bool) (n : ℕ) → GoesOn most many (at-step (settle.DeleteTold n)) (row.delete_told t at r serving n)
  told-goes r serving n = by_test (nat_lt n 32) refl
    where
      over : GoesOn most many (at-step (settle.DeleteTold n)) (Over (next_node t at n))
      over = node-goes (settle.DeleteTold n) n (three-lower n)

      by_serving : n < 32 → (d : Delete) (x : Bool) → GoesOn most many (at-step (settle.DeleteTold n)) (if x then Says (step.Tell d.node (body.Delete d.bucket d.serial)) else Over (next_node t at n))
      by_serving h d true = h
      by_serving h d false = over

      found : n < 32 → (x : Option Delete) → GoesOn most many (at-step (settle.DeleteTold n)) (tell_delete x serving (next_node t at n))
      found h None = over
      found h (Some d) = by_serving h d (serving d.node)

      by_test : (x : Bool) → nat_lt n 32 ≡ x → GoesOn most many (at-step (settle.DeleteTold n)) (tell_delete (if x then r.deleting else None) serving (next_node t at n))
      by_test true e = found (less n 32 e) r.deleting
      by_test false e = over

  over-goes : (r : Row) (n : ℕ) → GoesOn most many (at-step (settle.DeleteOver n)) (row.delete_over t at r n)
  over-goes r n = by_test (nat_lt n 32) refl
    where
      over : GoesOn most many (at-step (settle.DeleteOver n)) (Over (next_node t at n))
      over = node-goes (settle.DeleteOver n) n (three-less n)

      found : n < 32 → (x : Option Delete) → GoesOn most many (at-step (settle.DeleteOver n)) (end_delete at x (next_node t at n))
      found h None = over
      found h (Some d) = h

      by_test : (x : Bool) → nat_lt n 32 ≡ x → GoesOn most many (at-step (settle.DeleteOver n)) (end_delete at (if x then r.deleting else None) (next_node t at n))
      by_test true e = found (less n 32 e) r.deleting
      by_test false e = over

  settle-goes : (v : View) (made : BTreeMap ℕ (Unit {0})) (r : Row) (note : RowNote) (next : Settle) → GoesOn most many (at-step next) (settle_turn v made t at r note next)
  settle-goes v made r note settle.Beginning = beginning-goes made r.bucket
  settle-goes v made r note (settle.Aligning n any) = aligning-goes r.bucket note (serves v.state n) n any
  settle-goes v made r note settle.AlignRound = tt
  settle-goes v made r note (settle.Readying n ready) = readying-goes r.bucket (is_asked v r n) n ready
  settle-goes v made r note (settle.Deciding ready) = deciding-goes r (to_be_active v r) ready
  settle-goes v made r note settle.Activating = activating-goes r (serves v.state)
  settle-goes v made r note (settle.Accepting answered) = accepting-goes answered
  settle-goes v made r note (settle.Deleting n) = deleting-goes r.bucket (serial_to_lose r note (is_target v r n) (v.rules).acks n) n
  settle-goes v made r note (settle.DeleteTold n) = told-goes r (serves v.state) n
  settle-goes v made r note (settle.DeleteOver n) = over-goes r n

  note-goes : (v : View) (made : BTreeMap ℕ (Unit {0})) (r : Row) (x : Option RowNote) (next : Settle) → GoesOn most many (at-step next) (by_note v made t at r x next)
  note-goes v made r None next = next-row-goes next
  note-goes v made r (Some note) next = settle-goes v made r note next

-- ---- what is sent again

module _ (v : View) (most many : ℕ) (at : ℕ) (within : at < many) where
  resend-goes : (x : Option Delete) → GoesOn most many (ResendingDelete at) (resend_delete v at x)
  resend-goes None = next_resend (5211 * (most + 2)) many at within
  resend-goes (Some d) = by_test (not (was_sent v.rows at d) && serves v.state d.node)
    where
      by_test : (x : Bool) → GoesOn most many (ResendingDelete at) (if x then Says (step.Tell d.node (body.Delete d.bucket d.serial)) else Over (ResendingDelete (at + 1)))
      by_test true = within
      by_test false = next_resend (5211 * (most + 2)) many at within

  resent-goes : (x : Option Delete) → GoesOn most many (ResentDelete at) (end_delete at x (ResendingDelete (at + 1)))
  resent-goes None = resend_over (5211 * (most + 2)) many at
  resent-goes (Some d) = within

  activate-goes : (b : Low) (accepted : Bool) (x : Option ℕ) → GoesOn most many (ResendingActivate at) (tell_active b accepted x (serves v.state) (ResendingActivate (at + 1)))
  activate-goes b accepted None = next_resend (5207 * (most + 2)) many at within
  activate-goes b accepted (Some n) = by_test (not accepted && serves v.state n)
    where
      by_test : (x : Bool) → GoesOn most many (ResendingActivate at) (if x then Says (step.Tell n (body.Activate b)) else Over (ResendingActivate (at + 1)))
      by_test true = within
      by_test false = next_resend (5207 * (most + 2)) many at within

  activated-goes : (taken : Bool) → GoesOn most many (ResentActivate at taken) (if taken then Says (step.Accept at) else Over (ResendingActivate (at + 1)))
  activated-goes true = within
  activated-goes false = resend_over (5207 * (most + 2)) many at

-- ---- joins

module _ (v : View) (notes : BTreeMap ℕ RowNote) (most many : ℕ) (few : many ≤ most) (t : Time) (bits at : ℕ) where
  fewer-goes : GoesOn most many (Joining t bits at) (Over (fewer_bits v t bits))
  fewer-goes = by_bits (nat_le bits 2) refl
    where
      ended : (u : Time) → left most many (end_joins u) < left most many (Joining u bits at)
      ended First = joined_first (most + 2) most many (bits * (40 * (most + 2))) ((many - at) * 40) refl few
      ended Again = joined_again (most + 2) many (bits * (40 * (most + 2))) ((many - at) * 40) (omega (arith, few))

      by_bits : (x : Bool) → nat_le bits 2 ≡ x → GoesOn most many (Joining t bits at) (Over (if x then end_joins t else Joining t (bits - 1) (first_with (bits - 1) v.rows)))
      by_bits true e = ended t
      by_bits false e =
          let some : 0 < bits = grind (arith, nat_tests) in
          level_lower (behind_joins t * (most + 2)) (most + 2) many at (first_with (bits - 1) v.rows) bits (omega (arith, few)) some

  joining-goes : at < many → (r : Row) → GoesOn most many (Joining t bits at) (joining v notes t bits at (Some r))
  joining-goes within r = by_bits (nat_lt bits r.bucket.bits)
    where
      by_test : (x : Bool) → GoesOn most many (Joining t bits at) (if x then Says (step.Decide at (decision.RowsJoined (parent_of r.bucket))) else Over (Joining t bits (at + 1)))
      by_test true = tt
      by_test false = next_join (behind_joins t * (most + 2)) (bits * (40 * (most + 2))) many at within

      by_bits : (x : Bool) → GoesOn most many (Joining t bits at) (if x then Over (fewer_bits v t bits) else (if does_join v notes bits r then Says (step.Decide at (decision.RowsJoined (parent_of r.bucket))) else Over (Joining t bits (at + 1))))
      by_bits true = fewer-goes
      by_bits false = by_test (does_join v notes bits r)

  told-all-goes : (p : Low) (n : ℕ) → GoesOn most many (JoinTold t bits at p n) (tell_all v n (body.Join p) (JoinTold t bits at p (n + 1)) (JoinRound t bits at p))
  told-all-goes p n = by_test (nat_lt n 32) refl
    where
      by_serves : n < 32 → (x : Bool) → GoesOn most many (JoinTold t bits at p n) (if x then Says (step.Tell n (body.Join p)) else Over (JoinTold t bits at p (n + 1)))
      by_serves h true = h
      by_serves h false = join_lower (behind_joins t * (most + 2)) (bits * (40 * (most + 2))) many at (3 + (32 - (n + 1))) (3 + (32 - n)) (omega (arith, h))

      by_test : (x : Bool) → nat_lt n 32 ≡ x → GoesOn most many (JoinTold t bits at p n) (if x then (if serves v.state n then Says (step.Tell n (body.Join p)) else Over (JoinTold t bits at p (n + 1))) else Over (JoinRound t bits at p))
      by_test true e = by_serves (less n 32 e) (serves v.state n)
      by_test false e = join_lower (behind_joins t * (most + 2)) (bits * (40 * (most + 2))) many at 1 (3 + (32 - n)) (omega arith)

  next-least : at ≤ next_place many at
  next-least = by_test (nat_lt at many)
    where
      by_test : (x : Bool) → at ≤ (if x then at + 1 else at)
      by_test true = omega arith
      by_test false = omega arith

  join-round-goes : (p : Low) (k : ℕ) (x : Option Row) → GoesOn most many (JoinRound t bits at p) (round_or k x (Joining t bits (next_place many at)))
  join-round-goes p k None = join_over (behind_joins t * (most + 2)) (bits * (40 * (most + 2))) many at (next_place many at) next-least
  join-round-goes p k (Some r) = tt

-- ---- splits

module _ (v : View) (most many : ℕ) (at : ℕ) where
  abbrev base : ℕ
  base = 2704 * (most + 2)

  abbrev rest-rows : ℕ
  rest-rows = (most - many) * 100

  splitting-goes : at < many → (r : Row) (x : Option ℕ) → GoesOn most many (Splitting at) (if is_full_by (v.rules).split_at r.bucket.bits x then Says (step.Decide at (decision.RowSplit r.bucket)) else Over (Splitting (at + 1)))
  splitting-goes within r None = next_split base rest-rows many at within
  splitting-goes within r (Some k) = by_bits (nat_lt r.bucket.bits 58) refl
    where
      by_few : r.bucket.bits < 58 → (x : Bool) → GoesOn most many (Splitting at) (if x then Says (step.Decide at (decision.RowSplit r.bucket)) else Over (Splitting (at + 1)))
      by_few h true = h
      by_few h false = next_split base rest-rows many at within

      by_bits : (x : Bool) → nat_lt r.bucket.bits 58 ≡ x → GoesOn most many (Splitting at) (if x && nat_lt (v.rules).split_at k then Says (step.Decide at (decision.RowSplit r.bucket)) else Over (Splitting (at + 1)))
      by_bits true e = by_few (less r.bucket.bits 58 e) (nat_lt (v.rules).split_at k)
      by_bits false e = next_split base rest-rows many at within

  split-told-goes : (b c : Low) (n : ℕ) → GoesOn most many (SplitTold at b c n) (tell_all v n (body.Split b) (SplitTold at b c (n + 1)) (SplitFirst at b c))
  split-told-goes b c n = by_test (nat_lt n 32) refl
    where
      by_serves : n < 32 → (x : Bool) → GoesOn most many (SplitTold at b c n) (if x then Says (step.Tell n (body.Split b)) else Over (SplitTold at b c (n + 1)))
      by_serves h true = h
      by_serves h false = join_lower base rest-rows many at (4 + (32 - (n + 1))) (4 + (32 - n)) (omega (arith, h))

      by_test : (x : Bool) → nat_lt n 32 ≡ x → GoesOn most many (SplitTold at b c n) (if x then (if serves v.state n then Says (step.Tell n (body.Split b)) else Over (SplitTold at b c (n + 1))) else Over (SplitFirst at b c))
      by_test true e = by_serves (less n 32 e) (serves v.state n)
      by_test false e = join_lower base rest-rows many at 2 (4 + (32 - n)) (omega arith)

  first-goes : (b c : Low) (k : ℕ) (x : Option Row) → GoesOn most many (SplitFirst at b c) (round_or k x (SplitSecond at c))
  first-goes b c k None = join_lower base rest-rows many at 1 2 (omega arith)
  first-goes b c k (Some r) = tt

  second-goes : (c : Low) (k : ℕ) (x : Option Row) → GoesOn most many (SplitSecond at c) (round_or k x (Splitting at))
  second-goes c k None = join_over base rest-rows many at at (omega arith)
  second-goes c k (Some r) = tt

-- ---- wherever it stands

module _ (v : View) (made : BTreeMap ℕ (Unit {0})) (notes : BTreeMap ℕ RowNote) (most : ℕ) (few : length v.rows ≤ most) where
  abbrev many-rows : ℕ
  many-rows = length v.rows

  within-rows : (at : ℕ) (r : Row) → slice_get v.rows at ≡ Some r → at < many-rows
  within-rows at r e = slice_get_within v.rows at r e

  resending-goes : (at : ℕ) (x : Option Row) → slice_get v.rows at ≡ x → GoesOn most many-rows (ResendingDelete at) (resending_delete v at x)
  resending-goes at None e = begins_activates (most + 2) many-rows ((many-rows - at) * 3) (omega (arith, few))
  resending-goes at (Some r) e = resend-goes v most many-rows at (within-rows at r e) r.deleting

  resent-at : (at : ℕ) (x : Option Row) → slice_get v.rows at ≡ x → GoesOn most many-rows (ResentDelete at) (resent_delete v at x)
  resent-at at None e = begins_activates (most + 2) many-rows ((many-rows - (at + 1)) * 3 + 1) (omega (arith, few))
  resent-at at (Some r) e = resent-goes v most many-rows at (within-rows at r e) r.deleting

  activating-at : (at : ℕ) (x : Option Row) → slice_get v.rows at ≡ x → GoesOn most many-rows (ResendingActivate at) (resending_activate v at x)
  activating-at at None e = begins_rounds (most + 2) many-rows ((many-rows - at) * 3) (omega (arith, few))
  activating-at at (Some r) e = activate-goes v most many-rows at (within-rows at r e) r.bucket r.accepted r.active

  activated-at : (at : ℕ) (taken : Bool) (x : Option Row) → slice_get v.rows at ≡ x → GoesOn most many-rows (ResentActivate at taken) (resent_activate at taken x)
  activated-at at taken None e = begins_rounds (most + 2) many-rows ((many-rows - (at + 1)) * 3 + 1) (omega (arith, few))
  activated-at at taken (Some r) e = activated-goes v most many-rows at (within-rows at r e) taken

  rounding-at : (at : ℕ) (x : Option Row) → slice_get v.rows at ≡ x → GoesOn most many-rows (Rounding at) (round_or at x (begin_joins v First))
  rounding-at at None e = begins_first (most + 2) many-rows at (first_with 58 v.rows) (omega (arith, few))
  rounding-at at (Some r) e = within-rows at r e

  joining-at : (t : Time) (bits at : ℕ) (x : Option Row) → slice_get v.rows at ≡ x → GoesOn most many-rows (Joining t bits at) (joining v notes t bits at x)
  joining-at t bits at None e = fewer-goes v notes most many-rows few t bits at
  joining-at t bits at (Some r) e = joining-goes v notes most many-rows few t bits at (within-rows at r e) r

  splitting-at : (at : ℕ) (x : Option Row) → slice_get v.rows at ≡ x → GoesOn most many-rows (Splitting at) (splitting v notes at x)
  splitting-at at None e = begins_settling (most + 2) many-rows ((most - many-rows) * 100 + (many-rows - at) * 40) (omega (arith, few))
  splitting-at at (Some r) e = splitting-goes v most many-rows at (within-rows at r e) r (documents_in (note_for r.bucket notes))

  settling-at : (t : Time) (at : ℕ) (next : Settle) (x : Option Row) → slice_get v.rows at ≡ x → GoesOn most many-rows (Settling t at next) (by_row v made notes t at x next)
  settling-at First at next None e = begins_again (most + 2) many-rows at (first_with 58 v.rows) (steps_left next) (omega (arith, few))
  settling-at Again at next None e = omega arith
  settling-at t at next (Some r) e = note-goes most many-rows t at (within-rows at r e) v made r (whole_in (note_for r.bucket notes)) next

  pub turn_goes : (d : Doing) → GoesOn most many-rows d (turn_at v made notes d)
  turn_goes (ResendingDelete at) = resending-goes at (slice_get v.rows at) refl
  turn_goes (ResentDelete at) = resent-at at (slice_get v.rows at) refl
  turn_goes (ResendingActivate at) = activating-at at (slice_get v.rows at) refl
  turn_goes (ResentActivate at taken) = activated-at at taken (slice_get v.rows at) refl
  turn_goes (Rounding at) = rounding-at at (slice_get v.rows at) refl
  turn_goes (Joining t bits at) = joining-at t bits at (slice_get v.rows at) refl
  turn_goes (JoinTold t bits at p n) = told-all-goes v notes most many-rows few t bits at p n
  turn_goes (JoinRound t bits at p) = join-round-goes v notes most many-rows few t bits at p (place_of p v.rows) (slice_get v.rows (place_of p v.rows))
  turn_goes (Splitting at) = splitting-at at (slice_get v.rows at) refl
  turn_goes (SplitTold at b c n) = split-told-goes v most many-rows at b c n
  turn_goes (SplitFirst at b c) = first-goes v most many-rows at b c (place_of b v.rows) (slice_get v.rows (place_of b v.rows))
  turn_goes (SplitSecond at c) = second-goes v most many-rows at c (place_of c v.rows) (slice_get v.rows (place_of c v.rows))
  turn_goes (Settling t at next) = settling-at t at next (slice_get v.rows at) refl
  turn_goes Finished = refl

-- as equations of the turn
pub over_nearer : (v : View) (made : BTreeMap ℕ (Unit {0})) (notes : BTreeMap ℕ RowNote) (most : ℕ) → length v.rows ≤ most → (d e : Doing) → turn_at v made notes d ≡ Over e → left most (length v.rows) e < left most (length v.rows) d
over_nearer v made notes most few d e h = subst (λ (x : Turn). GoesOn most (length v.rows) d x) h (turn_goes v made notes most few d)

pub says_awaits : (v : View) (made : BTreeMap ℕ (Unit {0})) (notes : BTreeMap ℕ RowNote) (d : Doing) (x : UpkeepStep) → turn_at v made notes d ≡ Says x → Awaits (length v.rows) x d
says_awaits v made notes d x h = subst (λ (y : Turn). GoesOn (length v.rows) (length v.rows) d y) h (turn_goes v made notes (length v.rows) (omega arith) d)

pub goes_nearer : (v : View) (made : BTreeMap ℕ (Unit {0})) (notes : BTreeMap ℕ RowNote) (most : ℕ) → length v.rows ≤ most → (d e : Doing) → GoesOver v made notes d e → left most (length v.rows) e ≤ left most (length v.rows) d
goes_nearer v made notes most few d e (Stays _) = omega arith
goes_nearer v made notes most few d e (Goes _ c _ h rest) =
    let one = over_nearer v made notes most few d c h in
    let more = goes_nearer v made notes most few c e rest in
    below (left most (length v.rows) e) (left most (length v.rows) c) (left most (length v.rows) d) more one
  where
    below : (x y z : ℕ) → x ≤ y → y < z → x ≤ z
    below x y z h g = omega (arith, h, g)
